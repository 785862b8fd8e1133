-- Bounds on the width and the number of a text's lines: an entry's fields and a count fit their bits.
use Prim.Native.Nat.{ℕ, suc, ◌+◌, ◌≤◌}
use mathlib.Core.Path.{◌≡◌, refl}
use mathlib.Core.Bool.{Bool, true, false, cond}
use mathlib.Core.List.{List, [], ◌∷◌, ◌++◌, map}
use native.Mathlib.Omega.{arith}
use lib.ListN.{length, length-append, length-map}
use Rattle.text.specs.declared.Alignment.{Alignment}
use Rattle.text.specs.declared.AmbiguousWidth.{AmbiguousWidth}
use Rattle.text.specs.Record.{is_head, alignment_of}
use Rattle.text.specs.Alignment.{resolved}
use Rattle.text.specs.Line.{Glyph, TextLine, numbered, until_head, lines_from, glyphs_of, total}
use Rattle.wrapping.specs.declared.Rule.{Rule}
use Rattle.wrapping.specs.Wrapping.{wrap}
use Rattle.nothing_lost.specs.Glyphs.{NoWider, none, one}
use Rattle.nothing_lost.proofs.Bounds.{any_cells, numbered-widths}
use Rattle.nothing_lost.proofs.Few.{lines-few}
use Rattle.line_composer.specs.declared.Method.TheVariants.{WordWrap}
use Rattle.line_composer.specs.Lines.{Line, aligned, lines_of, line_lines, all_lines, lines}

-- no line is wider than `most`
abbrev pub Narrow : ℕ → List Line → Type 0
Narrow most [] = Unit {0}
Narrow most (line ∷ rest) = (total line.glyphs ≤ most) × Narrow most rest

narrow-append : (most : ℕ) (a b : List Line) → Narrow most a → Narrow most b → Narrow most (a ++ b)
narrow-append most [] b p q = q
narrow-append most (line ∷ a) b p q = (p.0, narrow-append most a b p.1 q)

narrow-aligned : {most : ℕ} {ls : List (List Glyph)} (a : Alignment) → NoWider most ls → Narrow most (map (aligned a) ls)
narrow-aligned a none = tt
narrow-aligned a (one h rest) = (h, narrow-aligned a rest)

narrow-all : (u : Rule) (default : Alignment) (ls : List TextLine) → Narrow (u.limit + 11) (all_lines u WordWrap default ls)
unfolding line_lines lines_of
narrow-all u default [] = tt
narrow-all u default (l ∷ ls) =
    narrow-append (u.limit + 11) (line_lines u WordWrap default l) (all_lines u WordWrap default ls)
    (narrow-aligned (resolved (alignment_of l.head) default) (any_cells u (glyphs_of u.ambiguous l) (numbered-widths u.ambiguous l.first l.records)))
    (narrow-all u default ls)

pub narrow-lines : (u : Rule) (default : Alignment) (text : List ℕ) → Narrow (u.limit + 11) (lines u WordWrap default text)
unfolding lines
narrow-lines u default text = narrow-all u default (lines_from 0 text)

numbered-length : (a : AmbiguousWidth) (number : ℕ) (rs : List ℕ) → length (numbered a number rs) ≡ length rs
numbered-length a number [] = refl
numbered-length a number (r ∷ rs) = omega (arith, numbered-length a (suc number) rs)

line-short : (u : Rule) (default : Alignment) (l : TextLine) → length (line_lines u WordWrap default l) ≤ suc (length l.records)
unfolding line_lines lines_of
line-short u default l =
    omega (
      arith,
      length-map (wrap u (glyphs_of u.ambiguous l)).lines (aligned (resolved (alignment_of l.head) default)),
      lines-few u (glyphs_of u.ambiguous l),
      numbered-length u.ambiguous l.first l.records,
    )

-- at most one line for each head and each glyph
all_short : (u : Rule) (default : Alignment) (i : ℕ) (rs : List ℕ) → length (all_lines u WordWrap default (lines_from i rs)) + length (until_head rs) ≤ length rs
all_short u default i [] = omega arith
all_short u default i (r ∷ rs) = go (is_head r) (all_short u default (suc i) rs)
  where
    go : (b : Bool) → length (all_lines u WordWrap default (lines_from (suc i) rs)) + length (until_head rs) ≤ length rs
        → length (all_lines u WordWrap default (cond b (record { head = r; first = suc i; records = until_head rs } ∷ lines_from (suc i) rs) (lines_from (suc i) rs))) + length (cond b [] (r ∷ until_head rs)) ≤ suc (length rs)
    go true h =
        omega (
          arith,
          length-append (line_lines u WordWrap default (record { head = r; first = suc i; records = until_head rs })) (all_lines u WordWrap default (lines_from (suc i) rs)),
          line-short u default (record { head = r; first = suc i; records = until_head rs }),
        )
    go false h = omega arith

-- a text has no more lines than records: a list as long as the text is never too short
pub lines-short : (u : Rule) (default : Alignment) (text : List ℕ) → length (lines u WordWrap default text) ≤ length text
unfolding lines
lines-short u default text = omega (arith, all_short u default 0 text)
