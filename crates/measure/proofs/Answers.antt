-- The calls `line_count` and `line_width`: their answers, the answers as document 01's numbers, and the order of their causes.
use mathlib.Core.Path.{◌≡◌, refl, sym, ◌∙◌}
use Rattle.std.specs.Prelude.{Ok}
use Rattle.refuse.specs.declared.Ceilings.{Ceilings}
use Rattle.refuse.specs.declared.Refusal.TheVariants.{TextLength, TextHeads}
use Rattle.refuse.specs.Refusal.{verdict_number, Verdict}
use Rattle.refuse.specs.Causes.{most_accepted, text_causes}
use Rattle.refuse.proofs.Calls.{no_cause, result_number, result_value}
use Rattle.refuse.proofs.Accepted.{TextAccepted, sound}
use Rattle.refuse.proofs.Lowest.{InOrder, in_order}
use Rattle.measure_text.specs.Measures.{line_width}
use Rattle.check_block.specs.Causes.{frame_causes}
use Rattle.measure.specs.Answers.{measure_answer_value}
use Rattle.measure.specs.LineWidth as width
use Rattle.measure.specs.LineCount as count

-- a call is refused if and only if a cause holds, and for the lowest such cause
pub width-lowest-first : (most : Ceilings) (call : width.Call) → InOrder (width.causes_of most call)
unfolding width.causes_of text_causes frame_causes
width-lowest-first most call = in_order (width.causes_of most call) refl

pub count-lowest-first : (most : Ceilings) (call : count.Call) → InOrder (count.causes_of most call)
unfolding count.causes_of width.causes_of text_causes frame_causes
count-lowest-first most call = in_order (count.causes_of most call) refl

module _ (call : width.Call) where
  pub width-number : verdict_number (width.answer_of call) ≡ verdict_number (width.verdict_of call)
  unfolding width.answer_of
  width-number = result_number (width.verdict_of call) (line_width call.ambiguous call.block call.text)

  pub width_value : measure_answer_value (width.answer_of call) ≡ width.value_of call
  unfolding width.answer_of width.value_of
  width_value = result_value measure_answer_value (λ value. value) 0 (λ value. refl) (λ why. refl) (width.verdict_of call) (line_width call.ambiguous call.block call.text)

  -- v is the verdict of the checks
  module _ (v : Verdict) (e : v ≡ width.verdict_of call) (a : v ≡ Ok tt) where
    pub width-sound : TextAccepted call.text
    unfolding width.verdict_of width.causes_of text_causes frame_causes
    width-sound =
        let causes = width.causes_of most_accepted call in
        sound call.text (no_cause causes TextLength (sym e ∙ a)) (no_cause causes TextHeads (sym e ∙ a))

module _ (call : count.Call) where
  pub count-number : verdict_number (count.answer_of call) ≡ verdict_number (count.verdict_of call)
  unfolding count.answer_of
  count-number = result_number (count.verdict_of call) (count.count_of call)

  pub count_value : measure_answer_value (count.answer_of call) ≡ count.value_of call
  unfolding count.answer_of count.value_of
  count_value = result_value measure_answer_value (λ value. value) 0 (λ value. refl) (λ why. refl) (count.verdict_of call) (count.count_of call)

  module _ (v : Verdict) (e : v ≡ count.verdict_of call) (a : v ≡ Ok tt) where
    pub count-sound : TextAccepted call.text
    unfolding count.verdict_of count.causes_of width.causes_of text_causes frame_causes
    count-sound =
        let causes = count.causes_of most_accepted call in
        sound call.text (no_cause causes TextLength (sym e ∙ a)) (no_cause causes TextHeads (sym e ∙ a))
