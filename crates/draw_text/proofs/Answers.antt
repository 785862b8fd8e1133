-- The call `draw_text`: the answer as document 01's numbers, the order of its causes, and what acceptance implies
-- for its inputs.
use Prim.Native.Nat.{◌<◌, ◌≤◌, ◌^◌}
use mathlib.Core.Path.{◌≡◌, refl, sym, ◌∙◌}
use mathlib.Core.Bool.{false}
use lib.ListN.{length}
use Rattle.std.specs.Prelude.{Ok, Err}
use Rattle.refuse.specs.declared.Ceilings.{Ceilings}
use Rattle.refuse.specs.declared.Refusal.{Refusal}
use Rattle.refuse.specs.declared.Refusal.TheVariants.{Screen, TextLength, TextHeads}
use Rattle.refuse.specs.Refusal.{verdict_number, Verdict}
use Rattle.refuse.specs.Causes.{most_accepted, screen_causes, text_causes, screen_wrong}
use Rattle.refuse.proofs.Calls.{no_cause, result_number, result_value}
use Rattle.refuse.proofs.Accepted.{sound}
use Rattle.refuse.proofs.Lowest.{InOrder, in_order}
use Rattle.check_settings.proofs.Cells.{columns_fit, rows_fit, has_cells}
use Rattle.buffer.specs.PartsExtra.{HasCells}
use Rattle.render_lines.specs.DrawingExtra.{Composable}
use Rattle.paragraph.specs.Notice.{no_draw_counts}
use Rattle.draw_text.specs.Call.{Call, causes_of, verdict_of, screen_in, rows_of, answer_of, counts_of, cells_after, draw_answer_counts}

-- a call is refused if and only if a cause holds, and for the lowest such cause
pub lowest-first : (most : Ceilings) (call : Call) → InOrder (causes_of most call)
unfolding causes_of screen_causes text_causes
lowest-first most call = in_order (causes_of most call) refl

module _ (call : Call) where
  pub answer_number : verdict_number (answer_of call) ≡ verdict_number (verdict_of call)
  unfolding answer_of
  answer_number = result_number (verdict_of call) (rows_of call)

  pub answer_counts : draw_answer_counts (answer_of call) ≡ counts_of call
  unfolding answer_of counts_of
  answer_counts = result_value draw_answer_counts (λ counts. counts) no_draw_counts (λ counts. refl) (λ why. refl) (verdict_of call) (rows_of call)

  -- a refused call leaves all cells unchanged
  pub refused_cells : (why : Refusal) → verdict_of call ≡ Err why → cells_after call ≡ call.cells
  unfolding cells_after
  refused_cells why e = rw e

  -- v is the verdict of the checks
  module _ (v : Verdict) (e : v ≡ verdict_of call) (a : v ≡ Ok tt) where
    screen_right : screen_wrong most_accepted call.columns call.rows (length call.cells) ≡ false
    unfolding verdict_of causes_of screen_causes text_causes
    screen_right = no_cause (causes_of most_accepted call) Screen (sym e ∙ a)

    pub few_columns : call.columns < 2 ^ 16
    few_columns = columns_fit call.columns call.rows (length call.cells) screen_right

    pub few_rows : call.rows < 2 ^ 16
    few_rows = rows_fit call.columns call.rows (length call.cells) screen_right

    pub composable : Composable call.text × HasCells (screen_in call) (length call.cells)
    unfolding verdict_of causes_of screen_causes text_causes
    composable =
        let causes = causes_of most_accepted call in
        let s = sound call.text (no_cause causes TextLength (sym e ∙ a)) (no_cause causes TextHeads (sym e ∙ a)) in
        (record { opens = s.opens; few = s.few }, has_cells call.columns call.rows (length call.cells) screen_right)
