-- Words that the theorem `any_breaks` uses: document 01's 'Wrapping' with any tests in steps 2 and 3.
use Rattle.std.specs.Prelude.{◌-◌, Bool, false, cond, List, [], ◌∷◌, ◌++◌, eqb}
use Rattle.text.specs.Line.{Glyph, total}
use Rattle.wrapping.specs.declared.Rule.{Rule}
use Rattle.wrapping.specs.Wrapping.{Pending, Step, Wrapped, empty_pending, silent, ◌then◌, is_over_wide, must_join, joined, unjoined, full, fitting, emptied, drops, append_step, last_lines, at_least_one}

-- whether step 2 joins, and whether step 3 emits row
pub record Tests : Type 0 where
  pub join : Rule → Pending → Glyph → Bool
  pub full : Rule → Pending → Glyph → Bool

-- the tests of document 01
unfoldable pub document_tests : Tests
document_tests = record { join = must_join; full = full }

-- step 2: `join_step` with any test
unfoldable pub join_step_by : Tests → Rule → Glyph → Pending → Step
join_step_by t u g s =
    cond (t.join u s g) (record { lines = []; dropped = unjoined u s; pending = joined u s; done = false }) (silent s)

-- step 3: `emit_step` with any test
unfoldable pub emit_step_by : Tests → Rule → Glyph → Pending → Step
emit_step_by t u g s =
    cond (t.full u s g)
    (record {
      lines = s.row ∷ [];
      dropped = fitting (u.limit - total s.row) s.spaces ++ cond (drops (emptied u s) g) (g ∷ []) [];
      pending = emptied u s;
      done = drops (emptied u s) g;
    })
    (silent s)

-- the four steps in their order, as in `step`
unfoldable pub step_by : Tests → Rule → Pending → Glyph → Step
step_by t u s g = cond (is_over_wide u g) (silent s) ((join_step_by t u g then emit_step_by t u g then append_step g) s)

-- the result for the remaining glyphs from a state, and the line's end, as in `wrap_from`
abbrev pub wrap_from_by : Tests → Rule → Pending → List Glyph → Wrapped
wrap_from_by t u s [] = record { lines = last_lines u s; dropped = unjoined u s }
wrap_from_by t u s (g ∷ gs) =
    let now = step_by t u s g in
    let later = wrap_from_by t u now.pending gs in
    record { lines = now.lines ++ later.lines; dropped = now.dropped ++ later.dropped }

-- the whole text line, as in `wrap`
unfoldable pub wrap_by : Tests → Rule → List Glyph → Wrapped
wrap_by t u gs =
    let all = wrap_from_by t u empty_pending gs in
    cond (eqb u.limit 0) (record { lines = []; dropped = [] }) (record { lines = at_least_one all.lines; dropped = all.dropped })
