-- Marks change no line; and how many lines a text line has: none at limit 0, else one or more.
use Prim.Native.Nat.{ℕ, ◌≤◌}
use mathlib.Core.Path.{◌≡◌, refl, ap, ◌∙◌}
use mathlib.Core.List.{List, [], ◌∷◌, map, map-append}
use native.Mathlib.Omega.{arith}
use borrow.Author.Tests.{eq-eqb}
use lib.ListN.{length}
use Rattle.text.specs.declared.Alignment.{Alignment}
use Rattle.text.specs.Record.{alignment_of}
use Rattle.text.specs.Alignment.{resolved}
use Rattle.text.specs.Line.{Glyph, TextLine, lines_from, glyphs_of}
use Rattle.wrapping.specs.declared.Rule.{Rule}
use Rattle.wrapping.specs.Wrapping.{empty_pending, at_least_one, wrap_from, Wrapped, wrap}
use Rattle.nothing_lost.proofs.Steps.{wrap-from-empty}
use Rattle.line_composer.specs.declared.Method.{Method}
use Rattle.line_composer.specs.declared.Method.TheVariants.{WordWrap}
use Rattle.line_composer.specs.Lines.{Line, aligned, lines_of, line_lines, all_lines, lines}
use Rattle.line_composer.specs.Marks.{MarkedLine, marked, all_marked, marked_lines}

-- ---- the lines without their marks

abbrev pub without_marks : List MarkedLine → List Line
without_marks = map (λ (m : MarkedLine). m.line)

pub marked-kept : (ls : List Line) → without_marks (marked ls) ≡ ls
marked-kept [] = refl
marked-kept (line ∷ []) = refl
marked-kept (line ∷ next ∷ rest) = ap {B = List Line} (◌∷◌ line) (marked-kept (next ∷ rest))

module _ (u : Rule) (method : Method) (default : Alignment) where
  all-kept : (ls : List TextLine) → without_marks (all_marked u method default ls) ≡ all_lines u method default ls
  all-kept [] = refl
  all-kept (l ∷ ls) =
      map-append (λ (m : MarkedLine). m.line) (marked (line_lines u method default l)) (all_marked u method default ls)
      ∙ rw (marked-kept (line_lines u method default l), all-kept ls)

  pub lines-kept : (text : List ℕ) → without_marks (marked_lines u method default text) ≡ lines u method default text
  unfolding lines marked_lines
  lines-kept text = all-kept (lines_from 0 text)

-- ---- the number of lines of a wrapped text line

module _ (u : Rule) (default : Alignment) where
  lines-wrapped : (l : TextLine) (w : Wrapped) → wrap u (glyphs_of u.ambiguous l) ≡ w
      → line_lines u WordWrap default l ≡ map (aligned (resolved (alignment_of l.head) default)) w.lines
  unfolding lines_of line_lines
  lines-wrapped l w = ap (λ (x : Wrapped). map (aligned (resolved (alignment_of l.head) default)) x.lines)

  -- at limit 0 there is none
  module _ (e : u.limit ≡ 0) where
    nothing-wrapped : (gs : List Glyph) → wrap u gs ≡ record { lines = []; dropped = [] }
    unfolding wrap
    nothing-wrapped gs = rw (eq-eqb u.limit 0 e)

    none_of : (ls : List TextLine) → all_lines u WordWrap default ls ≡ []
    none_of [] = refl
    none_of (l ∷ ls) = rw (lines-wrapped l _ (nothing-wrapped (glyphs_of u.ambiguous l))) (none_of ls)

    pub no_lines : (text : List ℕ) → lines u WordWrap default text ≡ []
    unfolding lines
    no_lines text = none_of (lines_from 0 text)

  -- at limit 1 or more there is at least one
  pub some-lines : 1 ≤ u.limit → (l : TextLine) → 1 ≤ length (line_lines u WordWrap default l)
  some-lines h l =
      rw (lines-wrapped l _ (wrap-from-empty u (glyphs_of u.ambiguous l) (omega arith))) (some (wrap_from u empty_pending (glyphs_of u.ambiguous l)).lines)
    where
      some : (gs : List (List Glyph)) → 1 ≤ length (map (aligned (resolved (alignment_of l.head) default)) (at_least_one gs))
      some [] = omega arith
      some (g ∷ gs) = omega arith
