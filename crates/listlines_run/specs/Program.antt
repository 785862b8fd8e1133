-- Document 01, 'Small notices by hand': the answer of the program `listlines` to its input.
use Rattle.std.specs.Prelude.{ℕ, Bool, List, Result, Ok, Err}
use Rattle.refuse.specs.declared.Refusal.{Refusal}
use Rattle.text.specs.declared.Alignment.TheVariants.{Left}
use Rattle.text.specs.declared.AmbiguousWidth.TheVariants.{Narrow}
use Rattle.list_lines.specs.Call.{Call, call_of, answer_of as listAnswer, list_after}
use Rattle.listlines_input.specs.declared.Flaw.{Flaw}
use Rattle.listlines_input.specs.declared.Flaw.TheVariants.{Listed}
use Rattle.listlines_input.specs.declared.Input.{Input}
use Rattle.listlines_input.specs.Input.{records_of, parsed_of}

-- the program's answer, the count of lines or why the input is refused, given the list call's
abbrev pub answer_for : Result ℕ Refusal → Result ℕ Flaw
answer_for (Ok count) = Ok count
answer_for (Err why) = Err (Listed why)

-- "the notice aligned left", and document 02, C-11: "`listlines` reads narrow.": the list call for a text and a list, which has an
-- entry for each record accepted and is never too short (theorem `long_enough`)
abbrev pub call_for : ℕ → Bool → List ℕ → List ℕ → Call
call_for limit trim text list = call_of text Narrow Left limit trim list

abbrev pub answered : Result Input Flaw → List ℕ → List ℕ → Result ℕ Flaw
answered (Err flaw) text list = Err flaw
answered (Ok settings) text list = answer_for (listAnswer (call_for settings.limit settings.trim text list))

abbrev pub entered : Result Input Flaw → List ℕ → List ℕ → List ℕ
entered (Err flaw) text list = list
entered (Ok settings) text list = list_after (call_for settings.limit settings.trim text list)

-- the answer to an input, given the list before the call
unfoldable pub answer_of : List ℕ → List ℕ → Result ℕ Flaw
answer_of input list = answered (parsed_of input) (records_of input) list

-- the list after the call, whose first entries are printed
unfoldable pub list_of : List ℕ → List ℕ → List ℕ
list_of input list = entered (parsed_of input) (records_of input) list
