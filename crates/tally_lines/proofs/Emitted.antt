-- The glyphs of a text's composed lines.
use Prim.Native.Nat.{ℕ, ◌≤◌}
use mathlib.Core.Path.{◌≡◌, refl, ap, ◌∙◌}
use mathlib.Core.List.{List, [], ◌∷◌, ◌++◌, map, map-append}
use native.Mathlib.Omega.{arith}
use lib.ListN.{length, length-append}
use Rattle.text.specs.declared.Alignment.{Alignment}
use Rattle.text.specs.Record.{alignment_of}
use Rattle.text.specs.Alignment.{resolved}
use Rattle.text.specs.Line.{Glyph, TextLine, lines_from, glyphs_of}
use Rattle.text.proofs.LineGlyphs.{line_glyphs, split-glyphs, glyphs-short, starts-length}
use Rattle.wrapping.specs.declared.Rule.{Rule}
use Rattle.wrapping.specs.Wrapping.{wrap}
use Rattle.nothing_lost.specs.Glyphs.{glyphs_of_all}
use Rattle.nothing_lost.proofs.Lists.{glyphs-append}
use Rattle.nothing_lost.proofs.Accounted.{wrapped-few}
use Rattle.line_composer.specs.declared.Method.TheVariants.{WordWrap}
use Rattle.line_composer.specs.Lines.{Line, aligned, lines_of, line_lines, all_lines, lines}
use Rattle.line_composer.specs.Places.{starts}

-- the lines' glyphs, without their alignments
abbrev pub lists : List Line → List (List Glyph)
lists ls = map (λ (line : Line). line.glyphs) ls

lists-aligned : (a : Alignment) (ls : List (List Glyph)) → lists (map (aligned a) ls) ≡ ls
lists-aligned a [] = refl
lists-aligned a (gs ∷ ls) = ap {B = List (List Glyph)} (λ (rest : List (List Glyph)). gs ∷ rest) (lists-aligned a ls)

-- the composed lines of text lines, as lists of glyphs
abbrev pub wrapped : Rule → List TextLine → List (List Glyph)
wrapped u [] = []
wrapped u (line ∷ rest) = (wrap u (glyphs_of u.ambiguous line)).lines ++ wrapped u rest

-- the default alignment changes no line's glyphs
all-wrapped : (u : Rule) (default : Alignment) (ls : List TextLine) → lists (all_lines u WordWrap default ls) ≡ wrapped u ls
unfolding line_lines lines_of
all-wrapped u default [] = refl
all-wrapped u default (line ∷ rest) =
    map-append (λ (l : Line). l.glyphs) (line_lines u WordWrap default line) (all_lines u WordWrap default rest)
    ∙ rw (lists-aligned (resolved (alignment_of line.head) default) (wrap u (glyphs_of u.ambiguous line)).lines, all-wrapped u default rest)

pub lines-wrapped : (u : Rule) (default : Alignment) (text : List ℕ) → lists (lines u WordWrap default text) ≡ wrapped u (lines_from 0 text)
unfolding lines
lines-wrapped u default text = all-wrapped u default (lines_from 0 text)

-- every glyph of a line has a start
all-starts : (ls : List Line) → length (starts ls) ≡ length (glyphs_of_all (lists ls))
all-starts [] = refl
all-starts (line ∷ rest) = simp length-append (omega (arith, starts-length 0 line.glyphs, all-starts rest))

-- a text's lines have as many starts as wrapping emits glyphs
pub emitted-length : (u : Rule) (default : Alignment) (text : List ℕ) → length (starts (lines u WordWrap default text)) ≡ length (glyphs_of_all (wrapped u (lines_from 0 text)))
emitted-length u default text = all-starts (lines u WordWrap default text) ∙ ap (λ (ls : List (List Glyph)). length (glyphs_of_all ls)) (lines-wrapped u default text)

-- a text emits no more glyphs than it has
pub emitted-few : (u : Rule) (ls : List TextLine) → length (glyphs_of_all (wrapped u ls)) ≤ length (line_glyphs u.ambiguous ls)
emitted-few u [] = omega arith
emitted-few u (line ∷ rest) =
    simp (glyphs-append, length-append) (omega (arith, wrapped-few u (glyphs_of u.ambiguous line), emitted-few u rest))

-- a text emits no more glyphs than it has records
pub text-emits : (u : Rule) (default : Alignment) (text : List ℕ) → length (starts (lines u WordWrap default text)) ≤ length text
text-emits u default text =
    omega (
      arith,
      emitted-length u default text,
      emitted-few u (lines_from 0 text),
      simp length-append at (ap length (split-glyphs u.ambiguous 0 text)),
      glyphs-short u.ambiguous 0 text,
    )
