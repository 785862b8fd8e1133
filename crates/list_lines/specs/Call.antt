-- Document 01, 'Why a call is refused': the causes, the answer and the entries of the call `list_lines`. Document 02, C-11: "each
-- call that reads widths takes an enum setting"; C-17: the marks of its entries.
use Rattle.std.specs.Prelude.{ℕ, Bool, List, [], ◌∷◌, ◌++◌, map, length, drop, Result, Ok, Err}
use Rattle.text.specs.declared.Alignment.{Alignment}
use Rattle.text.specs.declared.AmbiguousWidth.{AmbiguousWidth}
use Rattle.refuse.specs.declared.Ceilings.{Ceilings}
use Rattle.refuse.specs.declared.Refusal.{Refusal}
use Rattle.refuse.specs.declared.Refusal.TheVariants.{ListLength}
use Rattle.refuse.specs.Refusal.{Cause, ◌if◌, first_cause, answering, unless_refused, Verdict}
use Rattle.refuse.specs.Causes.{most_accepted, line_causes, list_too_short}
use Rattle.wrapping.specs.declared.Rule.{Rule}
use Rattle.wrapping.specs.Rule.{rule_of}
use Rattle.line_composer.specs.declared.Method.TheVariants.{WordWrap}
use Rattle.line_composer.specs.Lines.{Line, lines}
use Rattle.line_composer.specs.Marks.{MarkedLine, marked_lines}
use Rattle.entry.specs.Entry.{listed}

-- inputs of the call, with the list before it
pub record Call : Type 0 where
  pub text : List ℕ
  pub ambiguous : AmbiguousWidth
  pub default_alignment : Alignment
  pub limit : ℕ
  pub trim : Bool
  pub list : List ℕ

abbrev pub call_of : List ℕ → AmbiguousWidth → Alignment → ℕ → Bool → List ℕ → Call
call_of text ambiguous default limit trim list =
    record { text = text; ambiguous = ambiguous; default_alignment = default; limit = limit; trim = trim; list = list }

-- the rule that the text is wrapped by
abbrev pub rule_for : Call → Rule
rule_for call = rule_of call.ambiguous call.limit call.trim

-- the lines to write
unfoldable pub lines_of : Call → List Line
lines_of call = lines (rule_for call) WordWrap call.default_alignment call.text

-- each with its mark
unfoldable pub marked_lines_of : Call → List MarkedLine
marked_lines_of call = marked_lines (rule_for call) WordWrap call.default_alignment call.text

-- causes 3, 4, 8, 9
unfoldable pub causes_of : Ceilings → Call → List Cause
causes_of most call =
    line_causes most call.text call.limit
    ++ (ListLength if list_too_short (length call.list) (length (lines_of call)) ∷ [])

unfoldable pub verdict_of : Call → Verdict
verdict_of call = first_cause (causes_of most_accepted call)

-- the number of lines written, or why the call was refused
unfoldable pub answer_of : Call → Result ℕ Refusal
answer_of call = answering (verdict_of call) (length (lines_of call))

-- "An accepted list call writes its lines from entry 0 and keeps later entries." A refused one leaves the list unchanged.
unfoldable pub list_after : Call → List ℕ
list_after call =
    unless_refused (verdict_of call) (map listed (marked_lines_of call) ++ drop (length (lines_of call)) call.list) call.list

-- the count of an answer: the lines written, or 0 ("number, counts 0")
abbrev pub list_answer_count : Result ℕ Refusal → ℕ
list_answer_count (Ok count) = count
list_answer_count (Err why) = 0
