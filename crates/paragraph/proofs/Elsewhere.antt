-- Theorems `frame-elsewhere` and `paragraph_elsewhere`: drawing a notice's frame changes no cell outside the met area and the shadow's area,
-- on a screen of fewer than 2^15 columns (at most 512 are accepted), and drawing its text none outside the area that it is given.
use Prim.Native.Nat.{ℕ, ◌^◌, ◌<◌}
use mathlib.Core.Path.{◌≡◌, sym, ◌∙◌}
use mathlib.Core.Bool.{false, true≢false}
use mathlib.Core.List.{List}
use native.Mathlib.Omega.{arith}
use Rattle.text.specs.declared.AmbiguousWidth.{AmbiguousWidth}
use Rattle.layout.specs.declared.Rect.{Rect}
use Rattle.layout.specs.Rect.{meet, contains}
use Rattle.block.specs.declared.Block.{Block}
use Rattle.buffer.specs.declared.Screen.{Screen}
use Rattle.buffer.specs.Drawing.{area_of}
use Rattle.buffer.proofs.Keeping.{whole_cell}
use Rattle.titles.specs.Titles.{titles_from}
use Rattle.shadow.proofs.Keeping.{in_shadow}
use Rattle.render_block.proofs.Elsewhere.{in_no_part, frame_leaves, met-small}
use Rattle.render_text.specs.declared.TextSettings.{TextSettings}
use Rattle.paragraph.specs.Apart.{frame_of, paragraph_of}
use Rattle.paragraph.proofs.Keeping.{frame_keeps, inside_keeps}

module _ (styles : List ℕ) (screen : Screen) (column row cell : ℕ) where
  pub frame-elsewhere : screen.columns < 2 ^ 15 → (a : AmbiguousWidth) (titles : List ℕ) (style : ℕ) (b : Block) (area : Rect)
      → contains (meet area (area_of screen)) column row ≡ false
      → in_shadow screen (meet area (area_of screen)) b.shadow column row ≡ false
      → frame_of styles screen (titles_from a titles) style b area column row cell ≡ cell
  frame-elsewhere few a titles style b area outside unshadowed =
      let met = meet area (area_of screen) in
      frame_keeps whole_cell column row styles screen (titles_from a titles) style b area (λ here. absurd (true≢false (sym here ∙ outside)))
      (λ some. frame_leaves styles b met (met-small screen area few some) column row outside a screen titles unshadowed) cell

  pub paragraph_elsewhere : (text : List ℕ) (s : TextSettings) (area : Rect) → contains area column row ≡ false
      → paragraph_of styles screen text s area column row cell ≡ cell
  unfolding paragraph_of
  paragraph_elsewhere text s area outside =
      inside_keeps whole_cell column row styles text s (meet area (area_of screen))
      (in_no_part area column row outside (meet area (area_of screen)) (omega arith) (omega arith) (omega arith) (omega arith)) cell
