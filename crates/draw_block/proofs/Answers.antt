-- The call `draw_block`: the numbers of its answers, the order of its causes, and the preconditions that an accepted call meets.
use Prim.Native.Nat.{◌<◌, ◌^◌}
use mathlib.Core.Path.{◌≡◌, refl, sym, ◌∙◌}
use mathlib.Core.Bool.{false}
use lib.ListN.{length}
use Rattle.std.specs.Prelude.{Ok, Err}
use Rattle.text.specs.Line.{Opens}
use Rattle.refuse.specs.declared.Ceilings.{Ceilings}
use Rattle.refuse.specs.declared.Refusal.{Refusal}
use Rattle.refuse.specs.declared.Refusal.TheVariants.{Screen, Titles, Symbol}
use Rattle.refuse.specs.Refusal.{verdict_number, Verdict}
use Rattle.refuse.specs.Causes.{most_accepted, screen_causes, screen_wrong}
use Rattle.refuse.proofs.Calls.{no_cause}
use Rattle.refuse.proofs.Accepted.{titles_open}
use Rattle.refuse.proofs.Lowest.{InOrder, in_order}
use Rattle.check_settings.proofs.Cells.{columns_fit, rows_fit, has_cells}
use Rattle.block.specs.Causes.{SymbolsFit}
use Rattle.buffer.specs.Screen.{screen_of}
use Rattle.buffer.specs.PartsExtra.{HasCells}
use Rattle.draw_block.specs.Call.{Call, causes_of, verdict_of, answer_of, cells_after}

-- a cause that holds refuses the call, and a refusal names the lowest cause that holds
pub lowest-first : (most : Ceilings) (call : Call) → InOrder (causes_of most call)
unfolding causes_of screen_causes
lowest-first most call = in_order (causes_of most call) refl

-- the answer's number is the verdict's
pub answer_number : (call : Call) → verdict_number (answer_of call) ≡ verdict_number (verdict_of call)
answer_number call = refl

-- a refused call changes no cell
pub refused_cells : (call : Call) (why : Refusal) → verdict_of call ≡ Err why → cells_after call ≡ call.cells
unfolding cells_after
refused_cells call why e = rw e

-- v is the verdict that the checks returned
module _ (call : Call) (v : Verdict) (e : v ≡ verdict_of call) (a : v ≡ Ok tt) where
  screen_right : screen_wrong most_accepted call.columns call.rows (length call.cells) ≡ false
  unfolding verdict_of causes_of screen_causes
  screen_right = no_cause (causes_of most_accepted call) Screen (sym e ∙ a)

  pub few_columns : call.columns < 2 ^ 16
  few_columns = columns_fit call.columns call.rows (length call.cells) screen_right

  pub few_rows : call.rows < 2 ^ 16
  few_rows = rows_fit call.columns call.rows (length call.cells) screen_right

  pub drawable : SymbolsFit call.block × HasCells (screen_of call.columns call.rows) (length call.cells) × Opens call.titles
  unfolding verdict_of causes_of screen_causes
  drawable =
      let causes = causes_of most_accepted call in (
        no_cause causes Symbol (sym e ∙ a),
        has_cells call.columns call.rows (length call.cells) screen_right,
        titles_open most_accepted call.titles (no_cause causes Titles (sym e ∙ a)),
      )
