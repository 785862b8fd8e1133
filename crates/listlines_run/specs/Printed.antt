-- Document 01, 'Small notices by hand', and document 02, C-17: the bytes that the program `listlines` prints for an input.
use Rattle.std.specs.Prelude.{ℕ, List, Result, Ok, Err, [], ◌∷◌, ◌++◌, length}
use Rattle.text.specs.Alignment.{alignment_number}
use Rattle.text.specs.Line.{total}
use Rattle.refuse.specs.Refusal.{Verdict, refusal_number, first_cause}
use Rattle.refuse.specs.Causes.{most_accepted, line_causes}
use Rattle.line_composer.specs.Lines.{first_of, end_of}
use Rattle.line_composer.specs.Marks.{MarkedLine}
use Rattle.entry.specs.Entry.{mark_number}
use Rattle.list_lines.specs.Call.{marked_lines_of}
use Rattle.listlines_input.specs.declared.Flaw.{Flaw}
use Rattle.listlines_input.specs.declared.Input.{Input}
use Rattle.listlines_input.specs.Flaw.{flaw_number}
use Rattle.listlines_input.specs.Input.{records_of, parsed_of}
use Rattle.listlines_output.specs.Output.{fields_text, count_text, refused_text}
use Rattle.listlines_run.specs.Program.{call_for}

-- the printed line of a composed line, and of several
unfoldable pub line_text : MarkedLine → List ℕ
line_text m =
    let line = m.line in
    fields_text (first_of line.glyphs) (end_of line.glyphs) (total line.glyphs) (alignment_number line.alignment) (mark_number m.mark)

abbrev pub lines_text : List MarkedLine → List ℕ
lines_text [] = []
lines_text (line ∷ rest) = line_text line ++ lines_text rest

-- "It prints first, end, width, alignment of each line, then `lines` and their count; `refused`, a blank and the number on one
-- line otherwise"; C-17: "`listlines` prints the mark as a fifth field"
abbrev pub list_printed : Verdict → List MarkedLine → List ℕ
list_printed (Ok _) lines = lines_text lines ++ count_text (length lines)
list_printed (Err why) lines = refused_text (refusal_number why)

-- "first 0 for an incomplete input or trim byte above 1, then 3 above 4,096 records, then the table's": causes 3, 4 and 8; the
-- program's list is never too short (theorem `long_enough`)
abbrev pub printed : Result Input Flaw → List ℕ → List ℕ
printed (Err flaw) text = refused_text (flaw_number flaw)
printed (Ok settings) text =
    list_printed (first_cause (line_causes most_accepted text settings.limit)) (marked_lines_of (call_for settings.limit settings.trim text []))

unfoldable pub printed_of : List ℕ → List ℕ
printed_of input = printed (parsed_of input) (records_of input)
