-- Theorems `frame_keeps_bits` and `paragraph_keeps_bits`: drawing a notice's frame, or its text, keeps the bits of every cell that are
-- "never touched".
use Prim.Native.Nat.{ℕ}
use mathlib.Core.Path.{◌≡◌}
use mathlib.Core.List.{List}
use Rattle.cell.specs.Cell.{cell_from}
use Rattle.layout.specs.declared.Rect.{Rect}
use Rattle.layout.specs.Rect.{meet}
use Rattle.block.specs.declared.Block.{Block}
use Rattle.buffer.specs.declared.Screen.{Screen}
use Rattle.buffer.specs.Drawing.{area_of}
use Rattle.buffer.proofs.Keeping.{untouched_bits, inks_keep_bits}
use Rattle.titles.specs.Titles.{Title}
use Rattle.render_block.proofs.KeepsBits.{frame_keeps_bits as block-keeps-bits}
use Rattle.render_text.specs.declared.TextSettings.{TextSettings}
use Rattle.paragraph.specs.Apart.{frame_of, paragraph_of}
use Rattle.paragraph.proofs.Keeping.{frame_keeps, inside_keeps}

module _ (styles : List ℕ) (screen : Screen) (column row cell : ℕ) where
  pub frame_keeps_bits : (titles : List Title) (style : ℕ) (b : Block) (area : Rect)
      → (cell_from (frame_of styles screen titles style b area column row cell)).untouched ≡ (cell_from cell).untouched
  frame_keeps_bits titles style b area =
      frame_keeps untouched_bits column row styles screen titles style b area (λ _. inks_keep_bits)
      (λ _. block-keeps-bits styles screen titles b column row (meet area (area_of screen))) cell

  pub paragraph_keeps_bits : (text : List ℕ) (s : TextSettings) (area : Rect)
      → (cell_from (paragraph_of styles screen text s area column row cell)).untouched ≡ (cell_from cell).untouched
  unfolding paragraph_of
  paragraph_keeps_bits text s area = inside_keeps untouched_bits column row styles text s (meet area (area_of screen)) (λ _. inks_keep_bits) cell
