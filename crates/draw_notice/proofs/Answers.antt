-- A notice drawn whole: the order of its causes, and what acceptance implies for its inputs.
use Prim.Native.Nat.{◌<◌, ◌^◌}
use mathlib.Core.Path.{◌≡◌, refl, sym, ◌∙◌}
use mathlib.Core.Bool.{false}
use lib.ListN.{length}
use Rattle.std.specs.Prelude.{Ok}
use Rattle.refuse.specs.Refusal.{Verdict}
use Rattle.refuse.specs.declared.Ceilings.{Ceilings}
use Rattle.refuse.specs.declared.Refusal.TheVariants.{Screen, TextLength, TextHeads}
use Rattle.refuse.specs.Causes.{most_accepted, screen_causes, text_causes, screen_wrong}
use Rattle.refuse.proofs.Calls.{no_cause}
use Rattle.refuse.proofs.Accepted.{TextAccepted, sound}
use Rattle.refuse.proofs.Lowest.{InOrder, in_order}
use Rattle.check_settings.proofs.Cells.{columns_fit, rows_fit, has_cells}
use Rattle.buffer.specs.PartsExtra.{HasCells}
use Rattle.render_lines.specs.DrawingExtra.{Composable}
use Rattle.draw_notice.specs.Call.{Call, causes_of, verdict_of, screen_in}

-- a call is refused if and only if a cause holds, and for the lowest such cause
pub lowest-first : (most : Ceilings) (call : Call) → InOrder (causes_of most call)
unfolding causes_of screen_causes text_causes
lowest-first most call = in_order (causes_of most call) refl

module _ (call : Call) where
  -- if accepted, the inputs are valid
  module _ (k : verdict_of call ≡ Ok tt) where
    pub screen_right : screen_wrong most_accepted call.columns call.rows (length call.cells) ≡ false
    unfolding verdict_of causes_of screen_causes text_causes
    screen_right = no_cause (causes_of most_accepted call) Screen k

    pub text-sound : TextAccepted call.text
    unfolding verdict_of causes_of screen_causes text_causes
    text-sound =
        let causes = causes_of most_accepted call in
        sound call.text (no_cause causes TextLength k) (no_cause causes TextHeads k)

    pub screen_cells : HasCells (screen_in call) (length call.cells)
    screen_cells = has_cells call.columns call.rows (length call.cells) screen_right

  -- v is the verdict of the checks
  module _ (v : Verdict) (e : v ≡ verdict_of call) (a : v ≡ Ok tt) where
    pub few_columns : call.columns < 2 ^ 16
    few_columns = columns_fit call.columns call.rows (length call.cells) (screen_right (sym e ∙ a))

    pub few_rows : call.rows < 2 ^ 16
    few_rows = rows_fit call.columns call.rows (length call.cells) (screen_right (sym e ∙ a))

    pub composable : Composable call.text
    composable = let s = text-sound (sym e ∙ a) in record { opens = s.opens; few = s.few }
