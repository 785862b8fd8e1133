-- Document 01, 'Why a call is refused': the causes and the answer of the call `tally`. Document 02, C-11: "each call that
-- reads widths takes an enum setting".
use Rattle.std.specs.Prelude.{ℕ, Bool, List, Result, Ok, Err}
use Rattle.text.specs.declared.AmbiguousWidth.{AmbiguousWidth}
use Rattle.refuse.specs.declared.Ceilings.{Ceilings}
use Rattle.refuse.specs.declared.Refusal.{Refusal}
use Rattle.refuse.specs.Refusal.{Cause, first_cause, answering, unless_refused, Verdict}
use Rattle.refuse.specs.Causes.{most_accepted, line_causes}
use Rattle.wrapping.specs.declared.Rule.{Rule}
use Rattle.wrapping.specs.Rule.{rule_of}
use Rattle.tally.specs.declared.TallyCounts.{TallyCounts}
use Rattle.tally.specs.Tally.{no_counts, tally_of}

-- inputs of the call
pub record Call : Type 0 where
  pub text : List ℕ
  pub ambiguous : AmbiguousWidth
  pub limit : ℕ
  pub trim : Bool

abbrev pub call_of : List ℕ → AmbiguousWidth → ℕ → Bool → Call
call_of text ambiguous limit trim = record { text = text; ambiguous = ambiguous; limit = limit; trim = trim }

abbrev pub rule_in : Call → Rule
rule_in call = rule_of call.ambiguous call.limit call.trim

-- causes 3, 4, 8
unfoldable pub causes_of : Ceilings → Call → List Cause
causes_of most call = line_causes most call.text call.limit

unfoldable pub verdict_of : Call → Verdict
verdict_of call = first_cause (causes_of most_accepted call)

unfoldable pub answer_of : Call → Result TallyCounts Refusal
answer_of call = answering (verdict_of call) (tally_of (rule_in call) call.text)

-- the counts in the answer: "number, counts 0" if refused
unfoldable pub counts_of : Call → TallyCounts
counts_of call = unless_refused (verdict_of call) (tally_of (rule_in call) call.text) no_counts

-- the counts of an answer
abbrev pub tally_answer_counts : Result TallyCounts Refusal → TallyCounts
tally_answer_counts (Ok counts) = counts
tally_answer_counts (Err why) = no_counts
