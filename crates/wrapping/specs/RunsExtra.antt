-- Not in the papers: what the methods of runs compute. The rules, on lists of glyphs, are in `Wrapping`.
use Rattle.std.specs.Prelude.{ℕ, ◌+◌, ◌≤◌, ◌≡◌, cond, List, [], ◌∷◌, eqb, ltb, length, Option, Some, None}
use Rattle.std.proofs.Math.Seq.{slice}
use Rattle.text.specs.Record.{width_of}
use Rattle.text.specs.Line.{Glyph, numbered, total}
use Rattle.wrapping.specs.declared.Run.{Run}
use Rattle.wrapping.specs.declared.Rule.{Rule}
use Rattle.wrapping.specs.Wrapping.{not_over_wide, after_fitting}

-- what a rule reads of a glyph's record: its width, or none if it is over-wide
unfoldable pub fitting_of : Rule → ℕ → Option ℕ
fitting_of u r = cond (ltb u.limit (width_of u.ambiguous r)) None (Some (width_of u.ambiguous r))

abbrev pub empty_run : Run
empty_run = record { first = 0; end = 0; width = 0 }

-- one past the last glyph of a list, e if it is empty
abbrev pub end_from : ℕ → List Glyph → ℕ
end_from e [] = e
end_from e (g ∷ gs) = end_from (g.number + 1) gs

-- the run of a list of glyphs: its first record, one past its last, its width
abbrev pub run_of : List Glyph → Run
run_of [] = empty_run
run_of (g ∷ gs) = record { first = g.number; end = end_from (g.number + 1) gs; width = g.width + total gs }

-- the glyphs of a run within a text line's records
unfoldable pub glyphs_in : Rule → List ℕ → Run → List Glyph
glyphs_in u records a = not_over_wide u (numbered u.ambiguous a.first (slice a.first a.end records))

unfoldable pub append_run : Run → Run → Run
append_run a b =
    cond (eqb a.end 0) b
    (cond (eqb b.end 0) a (record { first = a.first; end = b.end; width = a.width + b.width }))

unfoldable pub push_run : Run → ℕ → ℕ → Run
push_run a at w =
    record { first = cond (eqb a.end 0) at a.first; end = at + 1; width = a.width + w }

unfoldable pub drop_run : Rule → List ℕ → Run → ℕ → Run
drop_run u records a room = run_of (after_fitting room (glyphs_in u records a))

-- a run lies in the text line and is that of its glyphs
pub record Spans (u : Rule) (records : List ℕ) (line : Run) : Type 0 where
  pub glyphs : line ≡ run_of (glyphs_in u records line)
  pub within : line.end ≤ length records
  pub ordered : line.first ≤ line.end
