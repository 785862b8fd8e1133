-- Document 01, 'Why a call is refused': the causes and the answer of the call `line_width`. Document 02, C-11: "each call that
-- reads widths takes an enum setting".
use Rattle.std.specs.Prelude.{ℕ, List, ◌++◌, Result}
use Rattle.text.specs.declared.AmbiguousWidth.{AmbiguousWidth}
use Rattle.refuse.specs.declared.Ceilings.{Ceilings}
use Rattle.refuse.specs.declared.Refusal.{Refusal}
use Rattle.refuse.specs.Refusal.{Cause, first_cause, answering, unless_refused, Verdict}
use Rattle.refuse.specs.Causes.{most_accepted, text_causes}
use Rattle.block.specs.declared.Block.{Block}
use Rattle.check_block.specs.Causes.{frame_causes}
use Rattle.measure_text.specs.Measures.{line_width}

-- inputs of the call
pub record Call : Type 0 where
  pub text : List ℕ
  pub ambiguous : AmbiguousWidth
  pub titles : List ℕ
  pub block : Block

abbrev pub call_of : List ℕ → AmbiguousWidth → List ℕ → Block → Call
call_of text ambiguous titles block = record { text = text; ambiguous = ambiguous; titles = titles; block = block }

-- causes 3, 4, 5, 7
unfoldable pub causes_of : Ceilings → Call → List Cause
causes_of most call = text_causes most call.text ++ frame_causes most call.titles call.block

unfoldable pub verdict_of : Call → Verdict
verdict_of call = first_cause (causes_of most_accepted call)

unfoldable pub answer_of : Call → Result ℕ Refusal
answer_of call = answering (verdict_of call) (line_width call.ambiguous call.block call.text)

unfoldable pub value_of : Call → ℕ
value_of call = unless_refused (verdict_of call) (line_width call.ambiguous call.block call.text) 0
