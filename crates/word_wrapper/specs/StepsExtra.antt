-- Not in the papers: what each method of the word wrapper computes on runs of records. The rules, on lists of glyphs, are in
-- `Wrapping` (crate `wrapping`); the laws in proofs/ show that the two agree.
use Rattle.std.specs.Prelude.{ℕ, ◌+◌, ◌-◌, Bool, true, false, cond, not, ◌&&◌, List, eqb, ltb, Option, Some, None}
use Rattle.text.specs.Record.{width_of, whitespace_of}
use Rattle.wrapping.specs.declared.Run.{Run}
use Rattle.wrapping.specs.declared.Rule.{Rule}
use Rattle.word_wrapper.specs.declared.WordWrapper.{WordWrapper}
use Rattle.wrapping.specs.RunsExtra.{empty_run, push_run, drop_run}
use Rattle.pending.specs.declared.Pending.{Pending}
use Rattle.pending.specs.TestsExtra.{gather_run, joins, full_run, last_run}

abbrev pub new_wrapper : Rule → WordWrapper
new_wrapper u =
    record {
      row = empty_run;
      spaces = empty_run;
      word = empty_run;
      solid = false;
      emitted = false;
      live = not (eqb u.limit 0);
      at = 0;
    }

abbrev pub pending_of : WordWrapper → Pending
pending_of s = record { row = s.row; spaces = s.spaces; word = s.word; solid = s.solid }

unfoldable pub join_run : Bool → WordWrapper → WordWrapper
join_run trim s =
    record {
      row = gather_run trim (pending_of s);
      spaces = empty_run;
      word = empty_run;
      solid = s.solid;
      emitted = s.emitted;
      live = s.live;
      at = s.at;
    }

unfoldable pub join_if_due_run : Rule → WordWrapper → ℕ → Bool → WordWrapper
join_if_due_run u s w space = cond (joins u (pending_of s) w space) (join_run u.trim s) s

unfoldable pub emit_row_run : Rule → List ℕ → WordWrapper → WordWrapper
emit_row_run u records s =
    record {
      row = empty_run;
      spaces = drop_run u records s.spaces (u.limit - s.row.width);
      word = s.word;
      solid = s.solid;
      emitted = true;
      live = s.live;
      at = s.at;
    }

unfoldable pub skip_glyph_run : WordWrapper → WordWrapper
skip_glyph_run s =
    record {
      row = s.row;
      spaces = s.spaces;
      word = s.word;
      solid = s.solid;
      emitted = s.emitted;
      live = s.live;
      at = s.at + 1;
    }

unfoldable pub append_glyph_run : WordWrapper → ℕ → Bool → WordWrapper
append_glyph_run s w space =
    cond space
    (record {
      row = s.row;
      spaces = push_run s.spaces s.at w;
      word = s.word;
      solid = false;
      emitted = s.emitted;
      live = s.live;
      at = s.at + 1;
    })
    (record {
      row = s.row;
      spaces = s.spaces;
      word = push_run s.word s.at w;
      solid = true;
      emitted = s.emitted;
      live = s.live;
      at = s.at + 1;
    })

-- after an emit: a whitespace glyph is dropped if spaces is now empty
unfoldable pub append_or_drop_run : WordWrapper → ℕ → Bool → WordWrapper
append_or_drop_run s w space = cond (space && eqb s.spaces.end 0) (skip_glyph_run s) (append_glyph_run s w space)

-- the line that a step emits, if it emits one, and the state after it
pub record Stepped : Type 0 where
  pub line : Option Run
  pub state : WordWrapper

abbrev pub emits_line : Run → WordWrapper → Stepped
emits_line line s = record { line = Some line; state = s }

abbrev pub emits_none : WordWrapper → Stepped
emits_none s = record { line = None; state = s }

unfoldable pub emit_or_append_run : Rule → List ℕ → WordWrapper → ℕ → Bool → Stepped
emit_or_append_run u records s w space =
    cond (full_run u (pending_of s) w) (emits_line s.row (append_or_drop_run (emit_row_run u records s) w space)) (emits_none (append_glyph_run s w space))

-- steps 1 to 4 for the glyph of the record r
unfoldable pub step_run : Rule → List ℕ → WordWrapper → ℕ → Stepped
step_run u records s r =
    cond (ltb u.limit (width_of u.ambiguous r)) (emits_none (skip_glyph_run s))
    (emit_or_append_run u records (join_if_due_run u s (width_of u.ambiguous r) (whitespace_of r)) (width_of u.ambiguous r) (whitespace_of r))

unfoldable pub close_run : WordWrapper → WordWrapper
close_run s =
    record {
      row = s.row;
      spaces = s.spaces;
      word = s.word;
      solid = s.solid;
      emitted = s.emitted;
      live = false;
      at = s.at;
    }

-- the text line's end: the last line, if there is one, and the state without remaining lines
unfoldable pub finish_run : Rule → WordWrapper → Stepped
finish_run u s = record { line = last_run u.trim s.emitted (pending_of s); state = close_run s }
