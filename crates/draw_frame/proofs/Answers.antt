-- The call `draw_frame`: the answer as document 01's number and an area, the order of its causes, and what
-- acceptance implies for its inputs.
use Prim.Native.Nat.{◌<◌, ◌≤◌, ◌^◌}
use mathlib.Core.Path.{◌≡◌, refl, sym, ◌∙◌}
use mathlib.Core.Bool.{false}
use lib.ListN.{length}
use Rattle.std.specs.Prelude.{Ok, Err}
use Rattle.text.specs.Line.{Opens}
use Rattle.refuse.specs.declared.Ceilings.{Ceilings}
use Rattle.refuse.specs.declared.Refusal.{Refusal}
use Rattle.refuse.specs.declared.Refusal.TheVariants.{Screen, Titles, Symbol}
use Rattle.refuse.specs.Refusal.{verdict_number, Verdict}
use Rattle.refuse.specs.Causes.{most_accepted, screen_causes, screen_wrong}
use Rattle.refuse.proofs.Calls.{no_cause, result_number, result_value}
use Rattle.refuse.proofs.Accepted.{titles_open}
use Rattle.refuse.proofs.Lowest.{InOrder, in_order}
use Rattle.check_settings.proofs.Cells.{columns_fit, rows_fit, has_cells}
use Rattle.block.specs.Causes.{SymbolsFit}
use Rattle.buffer.specs.PartsExtra.{HasCells}
use Rattle.inner.specs.Call.{no_rect, inner_answer_rect}
use Rattle.draw_frame.specs.Call.{Call, causes_of, verdict_of, screen_in, inner_in, answer_of, area_of, cells_after}

-- a call is refused if and only if a cause holds, and for the lowest such cause
pub lowest-first : (most : Ceilings) (call : Call) → InOrder (causes_of most call)
unfolding causes_of screen_causes
lowest-first most call = in_order (causes_of most call) refl

module _ (call : Call) where
  pub answer_number : verdict_number (answer_of call) ≡ verdict_number (verdict_of call)
  unfolding answer_of
  answer_number = result_number (verdict_of call) (inner_in call)

  pub answer_area : inner_answer_rect (answer_of call) ≡ area_of call
  unfolding answer_of area_of
  answer_area = result_value inner_answer_rect (λ area. area) no_rect (λ area. refl) (λ why. refl) (verdict_of call) (inner_in call)

  -- a refused call leaves all cells unchanged
  pub refused_cells : (why : Refusal) → verdict_of call ≡ Err why → cells_after call ≡ call.cells
  unfolding cells_after
  refused_cells why e = rw e

  -- an accepted call has valid inputs
  module _ (k : verdict_of call ≡ Ok tt) where
    screen_right : screen_wrong most_accepted call.columns call.rows (length call.cells) ≡ false
    unfolding verdict_of causes_of screen_causes
    screen_right = no_cause (causes_of most_accepted call) Screen k

    pub screen_cells : HasCells (screen_in call) (length call.cells)
    screen_cells = has_cells call.columns call.rows (length call.cells) screen_right

  -- v is the verdict of the checks
  module _ (v : Verdict) (e : v ≡ verdict_of call) (a : v ≡ Ok tt) where
    pub few_columns : call.columns < 2 ^ 16
    few_columns = columns_fit call.columns call.rows (length call.cells) (screen_right (sym e ∙ a))

    pub few_rows : call.rows < 2 ^ 16
    few_rows = rows_fit call.columns call.rows (length call.cells) (screen_right (sym e ∙ a))

    pub drawable : SymbolsFit call.block × HasCells (screen_in call) (length call.cells) × Opens call.titles
    unfolding verdict_of causes_of screen_causes
    drawable =
        let causes = causes_of most_accepted call in (
          no_cause causes Symbol (sym e ∙ a),
          screen_cells (sym e ∙ a),
          titles_open most_accepted call.titles (no_cause causes Titles (sym e ∙ a)),
        )
