-- Document 01, 'Why a call is refused': the causes and the answer of the call `inner`.
use Rattle.std.specs.Prelude.{ℕ, List, Result, Ok, Err}
use Rattle.layout.specs.declared.Rect.{Rect}
use Rattle.refuse.specs.declared.Ceilings.{Ceilings}
use Rattle.refuse.specs.declared.Refusal.{Refusal}
use Rattle.refuse.specs.Refusal.{Verdict, Cause, first_cause, answering, unless_refused}
use Rattle.refuse.specs.Causes.{most_accepted}
use Rattle.block.specs.declared.Block.{Block}
use Rattle.block.specs.Inner.{inner_of}
use Rattle.check_block.specs.Causes.{frame_causes}

-- inputs of the call
pub record Call : Type 0 where
  pub block : Block
  pub titles : List ℕ
  pub area : Rect

abbrev pub call_of : Block → List ℕ → Rect → Call
call_of block titles area = record { block = block; titles = titles; area = area }

-- causes: 5, 7
unfoldable pub causes_of : Ceilings → Call → List Cause
causes_of most call = frame_causes most call.titles call.block

unfoldable pub verdict_of : Call → Verdict
verdict_of call = first_cause (causes_of most_accepted call)

-- answer: the inner area, or the cause of refusal
unfoldable pub answer_of : Call → Result Rect Refusal
answer_of call = answering (verdict_of call) (inner_of call.block call.titles call.area)

-- area of a refused call: four zeros, as its counts are
abbrev pub no_rect : Rect
no_rect = record { x = 0; y = 0; width = 0; height = 0 }

-- the area in an answer
abbrev pub inner_answer_rect : Result Rect Refusal → Rect
inner_answer_rect (Ok area) = area
inner_answer_rect (Err why) = no_rect

unfoldable pub area_of : Call → Rect
area_of call = unless_refused (verdict_of call) (inner_of call.block call.titles call.area) no_rect
