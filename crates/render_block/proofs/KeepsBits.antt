-- Theorem `keeps_bits`: drawing a block keeps the bits of every cell that are "never touched".
use Prim.Native.Nat.{ℕ}
use mathlib.Core.Path.{◌≡◌}
use mathlib.Core.Bool.{not}
use mathlib.Core.List.{List}
use Rattle.layout.specs.declared.Rect.{Rect}
use Rattle.layout.specs.Rect.{meet, is_empty}
use Rattle.cell.specs.Cell.{cell_from}
use Rattle.block.specs.declared.Block.{Block}
use Rattle.buffer.specs.declared.Screen.{Screen}
use Rattle.buffer.specs.Drawing.{area_of}
use Rattle.buffer.proofs.Keeping.{Keeps, untouched_bits, inks_keep_bits, only_keeps}
use Rattle.titles.proofs.Keeping.{titles_keep}
use Rattle.titles.specs.Titles.{Title}
use Rattle.render_block.specs.Frame.{frame, block_of}
use Rattle.render_block.proofs.Keeping.{sides_keep, corners_keep, frame_keeps}

module _ (styles : List ℕ) (screen : Screen) (titles : List Title) (b : Block) (column row : ℕ) where
  pub frame_keeps_bits : (met : Rect) → Keeps untouched_bits (frame styles screen titles b met) column row
  frame_keeps_bits met =
      let bits = inks_keep_bits in
      frame_keeps untouched_bits column row styles b screen titles met (λ _. bits) (λ _. bits)
      (sides_keep untouched_bits column row styles b met (λ _. bits, (λ _. bits, (λ _. bits, (λ _. bits, tt)))))
      (corners_keep untouched_bits column row styles b met (λ _. bits, (λ _. bits, (λ _. bits, (λ _. bits, tt)))))
      (titles_keep untouched_bits column row styles bits b met titles)

  pub keeps_bits : (area : Rect) (cell : ℕ) → (cell_from (block_of styles screen titles b area column row cell)).untouched ≡ (cell_from cell).untouched
  unfolding block_of
  keeps_bits area =
      let met = meet area (area_of screen) in
      only_keeps untouched_bits column row (not (is_empty met)) (frame styles screen titles b met) (λ _. frame_keeps_bits met)
