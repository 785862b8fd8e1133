-- The example of document 01's 'Small notices by hand', by computation: "For 5, 1, a head of alignment 0 and "___abc"", with document
-- 02's fifth field.
use Prim.Native.Nat.{ℕ}
use mathlib.Core.Path.{◌≡◌, refl}
use mathlib.Core.List.{List, [], ◌∷◌, ◌++◌}
use Rattle.text.specs.Record.{read_width}
use Rattle.refuse.specs.Causes.{text_heads_wrong, text_causes, line_causes}
use Rattle.wrapping.specs.Wrapping.{is_over_wide, must_join, takes_spaces, gathered, joined, unjoined, full, emptied, drops, appended, ◌then◌, join_step, emit_step, append_step, step, last_lines, wrap}
use Rattle.line_composer.specs.Lines.{lines_of as textLineLines, line_lines}
use Rattle.line_composer.specs.Marks.{marked_lines}
use Rattle.list_lines.specs.Call.{marked_lines_of}
use Rattle.listlines_input.specs.Input.{records_of, incomplete, parsed_of}
use Rattle.listlines_output.specs.Output.{decimal, number_text, fields_text, count_text}
use Rattle.listlines_run.specs.Printed.{line_text, printed_of}

-- limit and trim, the head, the glyphs
abbrev input : List ℕ
input =
    (0 ∷ 5 ∷ 1 ∷ [])
    ++ ((128 ∷ 0 ∷ 0 ∷ 0 ∷ [])
    ++ ((0 ∷ 0 ∷ 128 ∷ 192 ∷ 0 ∷ 0 ∷ 128 ∷ 192 ∷ 0 ∷ 0 ∷ 128 ∷ 192 ∷ [])
    ++ (0 ∷ 1 ∷ 132 ∷ 128 ∷ 0 ∷ 1 ∷ 136 ∷ 128 ∷ 0 ∷ 1 ∷ 140 ∷ 128 ∷ [])))

-- `0 0 0 0 0`, `4 7 3 0 1`, `lines 2`
abbrev output : List ℕ
output =
    (48 ∷ 32 ∷ 48 ∷ 32 ∷ 48 ∷ 32 ∷ 48 ∷ 32 ∷ 48 ∷ 10 ∷ [])
    ++ ((52 ∷ 32 ∷ 55 ∷ 32 ∷ 51 ∷ 32 ∷ 48 ∷ 32 ∷ 49 ∷ 10 ∷ [])
    ++ (108 ∷ 105 ∷ 110 ∷ 101 ∷ 115 ∷ 32 ∷ 50 ∷ 10 ∷ []))

pub example_printed : printed_of input ≡ output
unfolding read_width is_over_wide must_join takes_spaces gathered joined unjoined full emptied drops appended ◌then◌ join_step emit_step append_step step last_lines wrap textLineLines line_lines marked_lines marked_lines_of text_heads_wrong text_causes line_causes records_of incomplete parsed_of decimal number_text fields_text count_text line_text printed_of
example_printed = refl
