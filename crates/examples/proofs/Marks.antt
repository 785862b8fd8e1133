-- Document 02, C-17, by computation: the marks of a text's composed lines, trimmed.
use Prim.Native.Nat.{ℕ, ◌+◌, ◌*◌, ◌^◌}
use mathlib.Core.Path.{◌≡◌, refl}
use mathlib.Core.Bool.{true}
use mathlib.Core.List.{List, [], ◌∷◌, ◌++◌, map}
use Rattle.text.specs.declared.Alignment.TheVariants.{Left}
use Rattle.text.specs.declared.AmbiguousWidth.{AmbiguousWidth}
use Rattle.text.specs.Record.{read_width}
use Rattle.wrapping.specs.Rule.{rule_of}
use Rattle.wrapping.specs.Wrapping.{is_over_wide, must_join, takes_spaces, gathered, joined, unjoined, full, emptied, drops, appended, ◌then◌, join_step, emit_step, append_step, step, last_lines, wrap}
use Rattle.line_composer.specs.declared.Method.TheVariants.{WordWrap}
use Rattle.line_composer.specs.Lines.{lines_of, line_lines, wrapped_line_of}
use Rattle.line_composer.specs.Marks.{MarkedLine, marked_lines}
use Rattle.entry.specs.Entry.{entry_packed, mark_number, entry_marked, listed}
use Rattle.examples.specs.Notation.{text_of}

abbrev pub marks : AmbiguousWidth → ℕ → List ℕ → List ℕ
marks a limit text = map (λ (m : MarkedLine). mark_number m.mark) (marked_lines (rule_of a limit true) WordWrap Left text)

-- "abc__" at 3: the second line, which is empty, is marked; "abc_" there has one line. Empty text lines are marked, and at limit 0
-- there is no line.
pub marks_of : (a : AmbiguousWidth) →
    (marks a 3 (text_of "abc__") ≡ 0 ∷ 1 ∷ [])
    × (marks a 3 (text_of "abc_") ≡ 1 ∷ [])
    × (marks a 3 (text_of "" ++ text_of "") ≡ 1 ∷ 1 ∷ [])
    × (marks a 1 (text_of "ab" ++ (text_of "" ++ text_of "c")) ≡ 0 ∷ 1 ∷ 1 ∷ 1 ∷ [])
    × (marks a 0 (text_of "ab") ≡ [])
unfolding read_width is_over_wide must_join takes_spaces gathered joined unjoined full emptied drops appended ◌then◌ join_step emit_step append_step step last_lines wrap lines_of line_lines marked_lines
marks_of a = (refl, refl, refl, refl, refl)

-- the entries of "abc__" at 3
pub entries_of_lem : (a : AmbiguousWidth) → map listed (marked_lines (rule_of a 3 true) WordWrap Left (text_of "abc__")) ≡ (2 ^ 49 + 4 * 2 ^ 34 + 3 * 2 ^ 18) ∷ 32768 ∷ []
unfolding read_width is_over_wide must_join takes_spaces gathered joined unjoined full emptied drops appended ◌then◌ join_step emit_step append_step step last_lines wrap lines_of line_lines marked_lines wrapped_line_of entry_packed entry_marked listed
entries_of_lem a = refl
