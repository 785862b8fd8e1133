-- The call `tally`: its answer, the answer as document 01's numbers, and the order of its causes.
use mathlib.Core.Path.{◌≡◌, refl, ◌∙◌}
use Rattle.refuse.specs.declared.Ceilings.{Ceilings}
use Rattle.refuse.specs.Refusal.{verdict_number}
use Rattle.refuse.specs.Causes.{text_causes, line_causes}
use Rattle.refuse.proofs.Calls.{result_number, result_value}
use Rattle.refuse.proofs.Lowest.{InOrder, in_order}
use Rattle.tally.specs.Tally.{no_counts, tally_of}
use Rattle.tally.specs.Call.{Call, rule_in, causes_of, verdict_of, answer_of, counts_of, tally_answer_counts}

-- a call is refused if and only if a cause holds, and for the lowest such cause
pub lowest-first : (most : Ceilings) (call : Call) → InOrder (causes_of most call)
unfolding causes_of line_causes text_causes
lowest-first most call = in_order (causes_of most call) refl

pub answer_number : (call : Call) → verdict_number (answer_of call) ≡ verdict_number (verdict_of call)
unfolding answer_of
answer_number call = result_number (verdict_of call) (tally_of (rule_in call) call.text)

pub answer_counts : (call : Call) → tally_answer_counts (answer_of call) ≡ counts_of call
unfolding answer_of counts_of
answer_counts call = result_value tally_answer_counts (λ counts. counts) no_counts (λ counts. refl) (λ why. refl) (verdict_of call) (tally_of (rule_in call) call.text)
