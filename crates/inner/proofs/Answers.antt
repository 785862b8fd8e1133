-- The call `inner`: its answers, their numbers in document 01, and the order of its causes.
use mathlib.Core.Path.{◌≡◌, refl}
use Rattle.std.specs.Prelude.{Err}
use Rattle.layout.specs.declared.Rect.{Rect}
use Rattle.refuse.specs.declared.Ceilings.{Ceilings}
use Rattle.refuse.specs.declared.Refusal.{Refusal}
use Rattle.refuse.specs.Refusal.{verdict_number}
use Rattle.refuse.proofs.Calls.{result_number, result_value}
use Rattle.refuse.proofs.Lowest.{InOrder, in_order}
use Rattle.block.specs.Inner.{inner_of}
use Rattle.check_block.specs.Causes.{frame_causes}
use Rattle.inner.specs.Call.{Call, causes_of, verdict_of, answer_of, no_rect, inner_answer_rect, area_of}

-- a cause that holds refuses the call, and a refusal names the lowest cause that holds
pub lowest-first : (most : Ceilings) (call : Call) → InOrder (causes_of most call)
unfolding causes_of frame_causes
lowest-first most call = in_order (causes_of most call) refl

-- the answer's number is the verdict's; its area is the call's, four zeros if refused
module _ (call : Call) where
  abbrev inside : Rect
  inside = inner_of call.block call.titles call.area

  pub answer_number : verdict_number (answer_of call) ≡ verdict_number (verdict_of call)
  unfolding answer_of
  answer_number = result_number (verdict_of call) inside

  pub answer_rect : inner_answer_rect (answer_of call) ≡ area_of call
  unfolding answer_of area_of
  answer_rect = result_value inner_answer_rect (λ area. area) no_rect (λ area. refl) (λ why. refl) (verdict_of call) inside

  pub refused_rect : (why : Refusal) → verdict_of call ≡ Err why → inner_answer_rect (answer_of call) ≡ record { x = 0; y = 0; width = 0; height = 0 }
  unfolding answer_of
  refused_rect why e = rw e
