-- Document 01 on the call `draw_text`: "untouched cells are named equal". `keeps_bits`: the 18 bits "never touched" of every cell are
-- those before the call. `elsewhere`: cells outside the area given are equal. `empty-area`: in an empty one, all are. `answer_blind`: "The
-- answer never depends on the cells found."
use Prim.Native.Nat.{ℕ, ◌/◌, ◌%◌, ◌<◌}
use mathlib.Core.Path.{◌≡◌, refl}
use mathlib.Core.Bool.{true, false}
use mathlib.Core.List.{List}
use lib.ListN.{length, get_or}
use Rattle.std.specs.Prelude.{Ok, Err}
use Rattle.cell.specs.Cell.{cell_from}
use Rattle.layout.specs.Rect.{is_empty, contains}
use Rattle.buffer.specs.Drawing.{drawn}
use Rattle.buffer.proofs.Keeping.{untouched_bits, whole_cell}
use Rattle.check_settings.proofs.Left.{left-length, left_keeps}
use Rattle.refuse.specs.Refusal.{unless_refused, Verdict}
use Rattle.paragraph.proofs.KeepsBits.{paragraph_keeps_bits}
use Rattle.paragraph.proofs.Elsewhere.{paragraph_elsewhere}
use Rattle.paragraph.proofs.Apart.{paragraph_empty}
use Rattle.draw_text.specs.Call.{Call, call_of, causes_of, verdict_of, screen_in, rows_of, answer_of, drawing_of, cells_after}
use Rattle.draw_text.proofs.Answers.{composable}

module _ (call : Call) where
  pub same_length : length (cells_after call) ≡ length call.cells
  unfolding cells_after
  same_length = left-length (verdict_of call) call.columns (drawing_of call) call.cells

  -- cell i; a refused call leaves it
  module _ (i : ℕ) (h : i < length call.cells) where
    pub keeps_bits : (cell_from (get_or (cells_after call) i 0)).untouched ≡ (cell_from (get_or call.cells i 0)).untouched
    unfolding cells_after drawing_of
    keeps_bits =
        left_keeps untouched_bits (verdict_of call) call.columns (drawing_of call) call.cells i h
        (λ _ cell. paragraph_keeps_bits call.styles (screen_in call) (i % call.columns) (i / call.columns) cell call.text call.settings call.area)

    pub elsewhere : contains call.area (i % call.columns) (i / call.columns) ≡ false → get_or (cells_after call) i 0 ≡ get_or call.cells i 0
    unfolding cells_after drawing_of
    elsewhere outside =
        left_keeps whole_cell (verdict_of call) call.columns (drawing_of call) call.cells i h
        (λ _ cell. paragraph_elsewhere call.styles (screen_in call) (i % call.columns) (i / call.columns) cell call.text call.settings call.area outside)

  -- in an empty area no cell is drawn
  pub empty-area : is_empty call.area ≡ true → cells_after call ≡ call.cells
  unfolding cells_after drawing_of
  empty-area none = go (verdict_of call) refl
    where
      go : (v : Verdict) → v ≡ verdict_of call → unless_refused v (drawn call.columns (drawing_of call) call.cells) call.cells ≡ call.cells
      go (Ok _) e = paragraph_empty (screen_in call) call.styles call.text call.settings call.area call.cells none (composable call (Ok tt) e refl).1.columns
      go (Err why) e = refl

  -- the same call on other cells
  abbrev pub on_cells : List ℕ → Call
  on_cells cells = call_of call.columns call.rows cells call.styles call.text call.area call.settings

  pub answer_blind : (cells : List ℕ) → length cells ≡ length call.cells → answer_of (on_cells cells) ≡ answer_of call
  unfolding answer_of verdict_of causes_of rows_of
  answer_blind cells e = rw e
