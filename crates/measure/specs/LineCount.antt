-- Document 01, 'Why a call is refused': the causes and the answer of the call `line_count`. Document 02, C-11: "each call that
-- reads widths takes an enum setting".
use Rattle.std.specs.Prelude.{ℕ, List, [], ◌∷◌, ◌++◌, Result}
use Rattle.text.specs.declared.AmbiguousWidth.{AmbiguousWidth}
use Rattle.refuse.specs.declared.Ceilings.{Ceilings}
use Rattle.refuse.specs.declared.Refusal.{Refusal}
use Rattle.refuse.specs.declared.Refusal.TheVariants.{Limit}
use Rattle.refuse.specs.Refusal.{Cause, ◌if◌, first_cause, answering, unless_refused, Verdict}
use Rattle.refuse.specs.Causes.{most_accepted, limit_wrong}
use Rattle.block.specs.declared.Block.{Block}
use Rattle.line_composer.specs.declared.Wrap.{Wrap}
use Rattle.measure_text.specs.Measures.{line_count}
use Rattle.measure.specs.LineWidth as width

-- inputs of the call
pub record Call : Type 0 where
  pub text : List ℕ
  pub ambiguous : AmbiguousWidth
  pub titles : List ℕ
  pub block : Block
  pub wrap : Wrap
  pub width : ℕ

abbrev pub call_of : List ℕ → AmbiguousWidth → List ℕ → Block → Wrap → ℕ → Call
call_of text ambiguous titles block wrap width =
    record { text = text; ambiguous = ambiguous; titles = titles; block = block; wrap = wrap; width = width }

-- causes 3, 4, 5, 7, as for `line_width`, and 8, for "the width given to `line_count`"
abbrev pub width_call : Call → width.Call
width_call call = width.call_of call.text call.ambiguous call.titles call.block

unfoldable pub causes_of : Ceilings → Call → List Cause
causes_of most call = width.causes_of most (width_call call) ++ (Limit if limit_wrong most call.width ∷ [])

unfoldable pub verdict_of : Call → Verdict
verdict_of call = first_cause (causes_of most_accepted call)

abbrev pub count_of : Call → ℕ
count_of call = line_count call.ambiguous call.block call.titles call.wrap call.width call.text

unfoldable pub answer_of : Call → Result ℕ Refusal
answer_of call = answering (verdict_of call) (count_of call)

unfoldable pub value_of : Call → ℕ
value_of call = unless_refused (verdict_of call) (count_of call) 0
