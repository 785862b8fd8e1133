-- Bounds the number of truncated lines, so that their count fits 32 bits.
use Prim.Native.Nat.{ℕ, ◌≤◌}
use mathlib.Core.Bool.{Bool, true, false, cond}
use mathlib.Core.List.{List, [], ◌∷◌}
use native.Mathlib.Omega.{arith}
use lib.Dec.{eqb}
use lib.ListN.{length, length-append, length-map}
use Rattle.text.specs.declared.Alignment.{Alignment}
use Rattle.text.specs.Record.{alignment_of}
use Rattle.text.specs.Alignment.{resolved}
use Rattle.text.specs.Line.{Glyph, TextLine, lines_from, glyphs_of}
use Rattle.wrapping.specs.declared.Rule.{Rule}
use Rattle.line_truncator.specs.Truncation.{truncate, offset_of, shown_from}
use Rattle.line_composer.specs.declared.Method.TheVariants.{Truncate}
use Rattle.line_composer.specs.Lines.{aligned, lines_of, line_lines, all_lines, lines}
use Rattle.measure.proofs.Lines.{text-lines-few}

-- truncation gives at most one line for a text line
truncate-at-most-one : (u : Rule) (column : ℕ) (alignment : Alignment) (gs : List Glyph) → length (truncate u column alignment gs) ≤ 1
unfolding truncate
truncate-at-most-one u column alignment gs = go (eqb u.limit 0)
  where
    go : (b : Bool) → length (cond b [] (shown_from u (offset_of column alignment) 0 gs ∷ [])) ≤ 1
    go true = omega arith
    go false = omega arith

-- there are at most as many truncated lines as text lines
module _ (u : Rule) (column : ℕ) (default : Alignment) where
  no_more_lines_than_text-lines : (ls : List TextLine) → length (all_lines u (Truncate column) default ls) ≤ length ls
  unfolding line_lines lines_of
  no_more_lines_than_text-lines [] = omega arith
  no_more_lines_than_text-lines (l ∷ ls) =
      let alignment : Alignment = resolved (alignment_of l.head) default in
      omega (
        arith,
        length-append (line_lines u (Truncate column) default l) (all_lines u (Truncate column) default ls),
        length-map (truncate u column alignment (glyphs_of u.ambiguous l)) (aligned alignment),
        truncate-at-most-one u column alignment (glyphs_of u.ambiguous l),
        no_more_lines_than_text-lines ls,
      )

-- a text has no more truncated lines than records
pub no_more_lines_than_records : (u : Rule) (column : ℕ) (default : Alignment) (text : List ℕ) → length (lines u (Truncate column) default text) ≤ length text
unfolding lines
no_more_lines_than_records u column default text = omega (arith, no_more_lines_than_text-lines u column default (lines_from 0 text), text-lines-few 0 text)
