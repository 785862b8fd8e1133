-- The call `list_lines`: the order of its causes, the numbers of its answer, and the list after it.
use Prim.Native.Nat.{ℕ, ◌≤◌}
use mathlib.Core.Path.{◌≡◌, refl, sym, ◌∙◌}
use mathlib.Core.Bool.{Bool, false}
use mathlib.Core.List.{◌++◌, map}
use borrow.Author.Tests.{ltb-false}
use lib.ListN.{length, drop}
use Rattle.std.specs.Prelude.{Ok}
use Rattle.refuse.specs.declared.Ceilings.{Ceilings}
use Rattle.refuse.specs.Refusal.{verdict_number, unless_refused}
use Rattle.refuse.specs.Causes.{text_causes, line_causes, list_too_short}
use Rattle.refuse.proofs.Calls.{result_number, result_value}
use Rattle.refuse.proofs.Lowest.{InOrder, in_order}
use Rattle.entry.specs.Entry.{listed}
use Rattle.list_lines.specs.Call.{Call, lines_of, marked_lines_of, causes_of, verdict_of, answer_of, list_after, list_answer_count}

-- the call is refused for the lowest cause that holds, and only for a cause that holds
pub lowest-first : (most : Ceilings) (call : Call) → InOrder (causes_of most call)
unfolding causes_of line_causes text_causes
lowest-first most call = in_order (causes_of most call) refl

-- the number of the answer is the verdict's; its count is 0 if the call is refused
pub answer_number : (call : Call) → verdict_number (answer_of call) ≡ verdict_number (verdict_of call)
unfolding answer_of
answer_number call = result_number (verdict_of call) (length (lines_of call))

pub answer_count : (call : Call) → list_answer_count (answer_of call) ≡ unless_refused (verdict_of call) (length (lines_of call)) 0
unfolding answer_of
answer_count call = result_value list_answer_count (λ count. count) 0 (λ count. refl) (λ why. refl) (verdict_of call) (length (lines_of call))

-- the list after an accepted call
pub list-accepted : (call : Call) → verdict_of call ≡ Ok tt → list_after call ≡ map listed (marked_lines_of call) ++ drop (length (lines_of call)) call.list
unfolding list_after
list-accepted call a = rw a

-- a list that isn't too short has an entry for each line
pub list-room : (entries n count : ℕ) (b : Bool) → count ≡ n → b ≡ list_too_short entries count → b ≡ false → n ≤ entries
list-room entries n count b c p f = rw c at (ltb-false entries count (sym p ∙ f))
