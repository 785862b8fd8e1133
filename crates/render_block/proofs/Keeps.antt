-- Theorem `block_keeps`: drawing a block keeps the symbol of every cell in the inner area of the met area. A style keeps all
-- symbols; the sides, corners and titles drawn lie outside the inner area, which lies in the met area; the shadow spares the met
-- area's cells.
use Prim.Native.Nat.{ℕ, ◌+◌, ◌-◌, ◌<◌, ◌≤◌, min}
use mathlib.Core.Path.{◌≡◌, refl}
use mathlib.Core.Bool.{Bool, true, false, not, or-true}
use mathlib.Core.List.{List, [], ◌∷◌}
use native.Mathlib.Omega.{arith}
use Rattle.num.specs.Held.{held}
use Rattle.text.specs.declared.TitlePosition.TheVariants.{Top, Bottom}
use Rattle.text.specs.declared.AmbiguousWidth.{AmbiguousWidth}
use Rattle.layout.specs.declared.Rect.{Rect}
use Rattle.layout.specs.Rect.{right_of, bottom_of, meet, is_empty, contains}
use Rattle.cell.specs.Cell.{cell_from, styled}
use Rattle.block.specs.declared.Block.{Block}
use Rattle.block.specs.Inner.{at_top, at_bottom, has_title_at, inner_of}
use Rattle.block.proofs.Within.{InnerInside}
use Rattle.buffer.specs.declared.Screen.{Screen}
use Rattle.buffer.specs.Drawing.{over, only_if, area_of, style_at}
use Rattle.buffer.proofs.Within.{cell_inside as inside-cell}
use Rattle.render_borders.specs.Borders.{sides, corners}
use Rattle.titles.specs.Titles.{titles_from, titles_row, titles_on}
use Rattle.titles.proofs.OtherRows.{titles_alone}
use Rattle.shadow.specs.Shadow.{shadow_of}
use Rattle.shadow.proofs.Keeps.{shadow_spares}
use Rattle.render_block.specs.Frame.{frame, block_of}
use Rattle.render_block.proofs.KeepsSymbols.{KeepsSymbol, Between, order_keeps, alone_keeps, style_keeps, inside_between, takes_one, cell_between, cell_inside, sides_keep, corners_keep}

module _ (a : AmbiguousWidth) (b : Block) (titles : List ℕ) (met : Rect) (across : met.x + met.width ≤ 65535) (down : met.y + met.height ≤ 65535)
    (column row : ℕ) (inner : contains (inner_of b titles met) column row ≡ true) where
  between_edges : Between (inner_of b titles met) column row
  between_edges = cell_between b titles met across down column row inner

  in_block : InnerInside b titles met
  in_block = cell_inside b titles met across down column row inner

  -- the shadow keeps the symbols of the inner area, which lies in the block's area
  shadow_keeps : (styles : List ℕ) (screen : Screen) → KeepsSymbol (shadow_of styles screen met b.shadow) column row
  shadow_keeps styles screen =
      let c = between_edges in
      let i = in_block in
      let in-met : contains met column row ≡ true = inside-cell met.x (right_of met) met.y (bottom_of met) column row (omega arith) (omega arith) (omega arith) (omega arith) in
      alone_keeps (shadow_of styles screen met b.shadow) column row (λ cell. shadow_spares styles screen met b.shadow column row cell in-met)

  -- if a title is at the top or bottom, no cell of the inner area lies in its row
  clear_top : row ≡ titles_row Top met → has_title_at b titles Top ≡ false
  clear_top here = go (has_title_at b titles Top) refl
    where
      go : (present : Bool) → has_title_at b titles Top ≡ present → present ≡ false
      go false e = refl
      go true e =
          let c = between_edges in
          let i = in_block in
          let one = takes_one (at_top b titles) (rw (e, or-true)) in
          absurd (omega (arith, here))

  clear_bottom : row ≡ titles_row Bottom met → has_title_at b titles Bottom ≡ false
  clear_bottom here = go (has_title_at b titles Bottom) refl
    where
      go : (present : Bool) → has_title_at b titles Bottom ≡ present → present ≡ false
      go false e = refl
      go true e =
          let c = between_edges in
          let i = in_block in
          let one = takes_one (at_bottom b titles) (rw (e, or-true)) in
          absurd (omega (arith, here))

  -- so the titles keep the symbols of the inner area
  titles_keep : (styles : List ℕ) → KeepsSymbol (titles_on styles b met (titles_from a titles)) column row
  titles_keep styles =
      alone_keeps (titles_on styles b met (titles_from a titles)) column row (titles_alone column row styles b a met titles clear_top clear_bottom)

  -- the frame keeps the symbols of the inner area
  frame_keeps : (styles : List ℕ) (screen : Screen) → KeepsSymbol (frame styles screen (titles_from a titles) b met) column row
  unfolding frame
  frame_keeps styles screen =
      order_keeps
      (over met (styled (style_at styles b.style))
      ∷ sides styles b met
      ∷ corners styles b met
      ∷ titles_on styles b met (titles_from a titles)
      ∷ shadow_of styles screen met b.shadow
      ∷ []) column row (
        style_keeps met (style_at styles b.style) column row,
        (
          sides_keep b titles met across down column row inner styles,
          (
            corners_keep b titles met across down column row inner styles,
            (titles_keep styles, (shadow_keeps styles screen, tt)),
          ),
        ),
      )

-- if the inner area of a met area has a cell, the met area's right and bottom don't saturate
met-fits : (place end other before after paddings start column : ℕ) → let size = min (held end) other - place in
    start ≤ column → column < held (start + (size - before - after - paddings)) → place + size ≤ 65535
met-fits place end other before after paddings start column low high =
    short place (min (held end) other) (held-most end other) (longer (min (held end) other - place) before after paddings (inner-some start _ column low high))
  where
    held-most : (end other : ℕ) → min (held end) other ≤ 65535
    held-most end other = omega arith

    inner-some : (start size column : ℕ) → start ≤ column → column < held (start + size) → 0 < size
    inner-some start size column low high = omega arith

    longer : (size before after paddings : ℕ) → 0 < size - before - after - paddings → 0 < size
    longer size before after paddings h = omega arith

    short : (place end : ℕ) → end ≤ 65535 → 0 < end - place → place + (end - place) ≤ 65535
    short place end most h = omega arith

module _ (styles : List ℕ) (screen : Screen) (a : AmbiguousWidth) (b : Block) (titles : List ℕ) (area : Rect) (column row : ℕ)
    (inner : contains (inner_of b titles (meet area (area_of screen))) column row ≡ true) where
  abbrev met : Rect
  met = meet area (area_of screen)

  met-frame : KeepsSymbol (frame styles screen (titles_from a titles) b met) column row
  unfolding inner_of
  met-frame =
      let c = inside_between (inner_of b titles met) column row inner in
      frame_keeps a b titles met
      (met-fits met.x (area.x + area.width) (right_of (area_of screen)) _ _ _ (inner_of b titles met).x column c.left c.right)
      (met-fits met.y (area.y + area.height) (bottom_of (area_of screen)) _ _ _ (inner_of b titles met).y row c.top c.bottom)
      column row inner styles screen

  pub block_keeps : KeepsSymbol (block_of styles screen (titles_from a titles) b area) column row
  unfolding block_of
  block_keeps cell = go (not (is_empty met))
    where
      go : (test : Bool) → (cell_from (only_if test (frame styles screen (titles_from a titles) b met) column row cell)).symbol ≡ (cell_from cell).symbol
      go true = met-frame cell
      go false = refl
