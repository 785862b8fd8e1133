-- Document 01 on the call `draw_frame`: "untouched cells are named equal". `keeps_bits`: the 18 bits "never touched" of every cell are
-- those before the call. `elsewhere`: cells outside the met area and the shadow's area are equal. `answer_blind`: "The answer never
-- depends on the cells found."
use Prim.Native.Nat.{ℕ, ◌/◌, ◌%◌, ◌<◌}
use mathlib.Core.Path.{◌≡◌}
use mathlib.Core.Bool.{false}
use mathlib.Core.List.{List}
use lib.ListN.{length, get_or}
use Rattle.cell.specs.Cell.{cell_from}
use Rattle.layout.specs.declared.Rect.{Rect}
use Rattle.layout.specs.Rect.{meet, contains}
use Rattle.buffer.specs.Drawing.{area_of}
use Rattle.buffer.proofs.Keeping.{untouched_bits, whole_cell}
use Rattle.check_settings.proofs.Left.{left-length, left_keeps}
use Rattle.titles.specs.Titles.{titles_from}
use Rattle.shadow.proofs.Keeping.{in_shadow}
use Rattle.paragraph.proofs.KeepsBits.{frame_keeps_bits}
use Rattle.paragraph.proofs.Elsewhere.{frame-elsewhere}
use Rattle.draw_frame.specs.Call.{Call, call_of, causes_of, verdict_of, screen_in, inner_in, answer_of, drawing_of, cells_after}
use Rattle.draw_frame.proofs.Answers.{screen_cells}

module _ (call : Call) where
  abbrev pub met_in : Rect
  met_in = meet call.area (area_of (screen_in call))

  pub same_length : length (cells_after call) ≡ length call.cells
  unfolding cells_after
  same_length = left-length (verdict_of call) call.columns (drawing_of call) call.cells

  -- cell i; a refused call leaves it
  module _ (i : ℕ) (h : i < length call.cells) where
    pub keeps_bits : (cell_from (get_or (cells_after call) i 0)).untouched ≡ (cell_from (get_or call.cells i 0)).untouched
    unfolding cells_after drawing_of
    keeps_bits =
        left_keeps untouched_bits (verdict_of call) call.columns (drawing_of call) call.cells i h
        (λ _ cell. frame_keeps_bits call.styles (screen_in call) (i % call.columns) (i / call.columns) cell (titles_from call.ambiguous call.titles) call.style call.block call.area)

    pub elsewhere : contains met_in (i % call.columns) (i / call.columns) ≡ false
        → in_shadow (screen_in call) met_in call.block.shadow (i % call.columns) (i / call.columns) ≡ false
        → get_or (cells_after call) i 0 ≡ get_or call.cells i 0
    unfolding cells_after drawing_of
    elsewhere outside unshadowed =
        left_keeps whole_cell (verdict_of call) call.columns (drawing_of call) call.cells i h
        (λ accepted cell.
        frame-elsewhere call.styles (screen_in call) (i % call.columns) (i / call.columns) cell (screen_cells call accepted).few_columns
        call.ambiguous call.titles call.style call.block call.area outside unshadowed)

  -- the same call on other cells
  abbrev pub on_cells : List ℕ → Call
  on_cells cells = call_of call.columns call.rows cells call.styles call.titles call.ambiguous call.area call.style call.block

  pub answer_blind : (cells : List ℕ) → length cells ≡ length call.cells → answer_of (on_cells cells) ≡ answer_of call
  unfolding answer_of verdict_of causes_of inner_in
  answer_blind cells e = rw e
