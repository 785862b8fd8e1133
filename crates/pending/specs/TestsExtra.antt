-- Not in the papers: the tests on what is pending, on runs of records. The rules, on lists of glyphs, are in `Wrapping` (crate
-- `wrapping`); the laws in `word_wrapper` show that the two agree.
use Rattle.std.specs.Prelude.{ℕ, ◌+◌, Bool, cond, ◌&&◌, ◌||◌, eqb, leb, ltb, Option, Some, None}
use Rattle.wrapping.specs.declared.Run.{Run}
use Rattle.wrapping.specs.declared.Rule.{Rule}
use Rattle.pending.specs.declared.Pending.{Pending}
use Rattle.wrapping.specs.RunsExtra.{empty_run, append_run}

-- row, then spaces if row isn't empty or trim is off, then word
unfoldable pub gather_run : Bool → Pending → Run
gather_run trim p =
    cond (eqb p.row.end 0)
    (cond trim p.word (append_run p.spaces p.word))
    (append_run (append_run p.row p.spaces) p.word)

-- whether spaces and word, with a glyph of width w, would overflow an empty row
unfoldable pub overflowing : Rule → Pending → ℕ → Bool
overflowing u p w =
    cond u.trim
    (ltb u.limit (p.word.width + w) || ltb u.limit (p.spaces.width + w))
    (ltb u.limit (p.word.width + p.spaces.width + w))

-- step 2's test
unfoldable pub joins : Rule → Pending → ℕ → Bool → Bool
joins u p w space = (space && p.solid) || (eqb p.row.end 0 && overflowing u p w)

-- step 3's test
unfoldable pub full_run : Rule → Pending → ℕ → Bool
full_run u p w =
    leb u.limit p.row.width || (ltb 0 w && leb u.limit (p.row.width + p.spaces.width + p.word.width))

-- the line emitted at the text line's end, if one is; `emitted` is whether the text line has emitted a line before
unfoldable pub last_run : Bool → Bool → Pending → Option Run
last_run trim emitted p =
    cond (eqb (gather_run trim p).end 0)
    (cond (eqb p.spaces.end 0) (cond emitted None (Some empty_run)) (Some empty_run))
    (Some (gather_run trim p))
