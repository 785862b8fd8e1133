-- Document 01 on the call `draw_block`: "untouched cells are named equal". `keeps_bits`: the 18 bits "never touched" of every cell are
-- those before the call. `elsewhere`: cells outside the met area and the shadow's area are equal. `answer_blind`: "The answer never
-- depends on the cells found."
use Prim.Native.Nat.{ℕ, ◌/◌, ◌%◌, ◌<◌}
use mathlib.Core.Path.{◌≡◌, refl, sym}
use mathlib.Core.Bool.{false}
use mathlib.Core.List.{List}
use lib.ListN.{length, get_or}
use Rattle.std.specs.Prelude.{Ok}
use Rattle.cell.specs.Cell.{cell_from}
use Rattle.layout.specs.declared.Rect.{Rect}
use Rattle.layout.specs.Rect.{meet, contains}
use Rattle.buffer.specs.declared.Screen.{Screen as ScreenSize}
use Rattle.buffer.specs.Drawing.{area_of}
use Rattle.buffer.specs.Screen.{screen_of}
use Rattle.buffer.proofs.Keeping.{untouched_bits, whole_cell}
use Rattle.check_settings.proofs.Left.{left-length, left_keeps}
use Rattle.shadow.proofs.Keeping.{in_shadow}
use Rattle.titles.specs.Titles.{titles_from}
use Rattle.render_block.proofs.KeepsBits.{keeps_bits as block-keeps-bits}
use Rattle.render_block.proofs.Elsewhere.{elsewhere as block-elsewhere}
use Rattle.draw_block.specs.Call.{Call, call_of, causes_of, verdict_of, answer_of, drawing_of, cells_after}
use Rattle.draw_block.proofs.Answers.{drawable}

module _ (call : Call) where
  abbrev pub screen_in : ScreenSize
  screen_in = screen_of call.columns call.rows

  abbrev pub met_in : Rect
  met_in = meet call.area (area_of screen_in)

  pub same_length : length (cells_after call) ≡ length call.cells
  unfolding cells_after
  same_length = left-length (verdict_of call) call.columns (drawing_of call) call.cells

  -- cell i; a refused call leaves it
  module _ (i : ℕ) (h : i < length call.cells) where
    pub keeps_bits : (cell_from (get_or (cells_after call) i 0)).untouched ≡ (cell_from (get_or call.cells i 0)).untouched
    unfolding cells_after drawing_of
    keeps_bits =
        left_keeps untouched_bits (verdict_of call) call.columns (drawing_of call) call.cells i h
        (λ _ cell. block-keeps-bits call.styles screen_in (titles_from call.ambiguous call.titles) call.block (i % call.columns) (i / call.columns) call.area cell)

    pub elsewhere : contains met_in (i % call.columns) (i / call.columns) ≡ false
        → in_shadow screen_in met_in call.block.shadow (i % call.columns) (i / call.columns) ≡ false
        → get_or (cells_after call) i 0 ≡ get_or call.cells i 0
    unfolding cells_after drawing_of
    elsewhere outside unshadowed =
        left_keeps whole_cell (verdict_of call) call.columns (drawing_of call) call.cells i h
        (λ accepted cell.
        block-elsewhere call.styles screen_in (drawable call (Ok tt) (sym accepted) refl).1.few_columns call.ambiguous call.titles call.block call.area
        (i % call.columns) (i / call.columns) cell outside unshadowed)

  -- the same call on other cells
  abbrev pub on_cells : List ℕ → Call
  on_cells cells = call_of call.columns call.rows cells call.styles call.titles call.ambiguous call.area call.block

  pub answer_blind : (cells : List ℕ) → length cells ≡ length call.cells → answer_of (on_cells cells) ≡ answer_of call
  unfolding verdict_of causes_of
  answer_blind cells e = rw e
