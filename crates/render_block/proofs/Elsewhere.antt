-- Theorem `elsewhere`: drawing a block changes no cell outside the met area and the shadow's area, on a screen of fewer than 2^15
-- columns (at most 512 are accepted). Sides, corners and titles lie in the met area.
use Prim.Native.Nat.{ℕ, ◌+◌, ◌-◌, ◌^◌, ◌<◌, ◌≤◌, min}
use mathlib.Core.Path.{◌≡◌, refl, sym, ◌∙◌}
use mathlib.Core.Bool.{Bool, true, false, not, true≢false}
use mathlib.Core.Logic.{dite}
use mathlib.Core.List.{List}
use native.Mathlib.Decide.{dec_lt}
use native.Mathlib.Omega.{arith}
use Rattle.num.specs.Held.{held}
use Rattle.text.specs.declared.AmbiguousWidth.{AmbiguousWidth}
use Rattle.layout.specs.declared.Rect.{Rect}
use Rattle.layout.specs.Rect.{right_of, bottom_of, meet, is_empty, contains}
use Rattle.layout.proofs.NotEmpty.{not-empty}
use Rattle.block.specs.declared.Block.{Block}
use Rattle.buffer.specs.declared.Screen.{Screen}
use Rattle.buffer.specs.Drawing.{area_of}
use Rattle.buffer.proofs.Keeping.{Keeps, InksKeep, whole_cell, only_keeps}
use Rattle.buffer.proofs.Within.{cell_inside}
use Rattle.border_edges.specs.Sides.{left_side, top_side, right_side, bottom_side, bottom_right, top_right, bottom_left, top_left}
use Rattle.render_borders.specs.Borders.{sides, corners}
use Rattle.titles.specs.Titles.{titles_from, titles_on}
use Rattle.titles.proofs.OtherRows.{titles_alone}
use Rattle.titles.proofs.OtherColumns.{titles-beside}
use Rattle.shadow.proofs.Keeping.{in_shadow}
use Rattle.render_block.specs.Frame.{frame, block_of}
use Rattle.render_block.proofs.KeepsSymbols.{inside_between}
use Rattle.render_block.proofs.Keeping.{sides_keep, corners_keep, frame_keeps}

-- a non-empty rectangle whose right and bottom don't saturate; so few columns that no sum of title widths that fits them does
pub record SmallArea (r : Rect) : Type 0 where
  pub wide : 0 < r.width
  pub high : 0 < r.height
  pub across : r.x + r.width ≤ 2 ^ 15
  pub down : r.y + r.height ≤ 65535

-- a cell that isn't in a rectangle is in no part of it
module _ (met : Rect) (column row : ℕ) (outside : contains met column row ≡ false) where
  not_between : {A : Type 0} → met.x ≤ column → column < right_of met → met.y ≤ row → row < bottom_of met → A
  not_between left right top bottom =
      absurd (true≢false (sym (cell_inside met.x (right_of met) met.y (bottom_of met) column row left right top bottom) ∙ outside))

  pub in_no_part : (part : Rect) → met.x ≤ part.x → right_of part ≤ right_of met → met.y ≤ part.y → bottom_of part ≤ bottom_of met
      → contains part column row ≡ true → InksKeep whole_cell
  in_no_part part left right top bottom here =
      let c = inside_between part column row here in
      let l = c.left in
      let r = c.right in
      let t = c.top in
      let d = c.bottom in
      not_between (omega (arith, l, left)) (omega (arith, r, right)) (omega (arith, t, top)) (omega (arith, d, bottom))

module _ (styles : List ℕ) (b : Block) (met : Rect) (small : SmallArea met) (column row : ℕ) (outside : contains met column row ≡ false) where
  sides_leave : Keeps whole_cell (sides styles b met) column row
  sides_leave =
      let w = small.wide in
      let h = small.high in
      let a = small.across in
      let d = small.down in
      sides_keep whole_cell column row styles b met (
        in_no_part met column row outside (left_side met) (omega arith) (omega (arith, w, a)) (omega arith) (omega arith),
        (
          in_no_part met column row outside (top_side met) (omega arith) (omega arith) (omega arith) (omega (arith, h, d)),
          (
            in_no_part met column row outside (right_side met) (omega (arith, w, a)) (omega (arith, w, a)) (omega arith) (omega arith),
            (in_no_part met column row outside (bottom_side met) (omega arith) (omega arith) (omega (arith, h, d)) (omega (arith, h, d)), tt),
          ),
        ),
      )

  corners_leave : Keeps whole_cell (corners styles b met) column row
  corners_leave =
      let w = small.wide in
      let h = small.high in
      let a = small.across in
      let d = small.down in
      corners_keep whole_cell column row styles b met (
        in_no_part met column row outside (bottom_right met) (omega (arith, w, a)) (omega (arith, w, a)) (omega (arith, h, d)) (omega (arith, h, d)),
        (
          in_no_part met column row outside (top_right met) (omega (arith, w, a)) (omega (arith, w, a)) (omega arith) (omega (arith, h, d)),
          (
            in_no_part met column row outside (bottom_left met) (omega arith) (omega (arith, w, a)) (omega (arith, h, d)) (omega (arith, h, d)),
            (in_no_part met column row outside (top_left met) (omega arith) (omega (arith, w, a)) (omega arith) (omega (arith, h, d)), tt),
          ),
        ),
      )

  -- titles are in the first and the last row, within the columns of the block
  titles_leave : (a : AmbiguousWidth) (titles : List ℕ) → Keeps whole_cell (titles_on styles b met (titles_from a titles)) column row
  titles_leave a titles =
      dite (dec_lt row met.y)
      (λ (above : row < met.y). titles_alone column row styles b a met titles (λ e. absurd (omega (arith, above, e))) (λ e. absurd (omega (arith, above, e, small.high, small.down))))
      (λ n.
      dite (dec_lt row (bottom_of met))
      (λ (in_rows : row < bottom_of met).
      titles-beside column b met small.wide small.across
      (λ left right. not_between met column row outside left (omega (arith, right, small.across)) (omega (arith, n)) in_rows) row styles (titles_from a titles))
      (λ m. titles_alone column row styles b a met titles (λ e. absurd (omega (arith, m, e, small.high, small.down))) (λ e. absurd (omega (arith, m, e, small.high, small.down)))))

  pub frame_leaves : (a : AmbiguousWidth) (screen : Screen) (titles : List ℕ) → in_shadow screen met b.shadow column row ≡ false
      → Keeps whole_cell (frame styles screen (titles_from a titles) b met) column row
  frame_leaves a screen titles unshadowed =
      frame_keeps whole_cell column row styles b screen (titles_from a titles) met
      (λ here. absurd (true≢false (sym here ∙ outside)))
      (λ here. absurd (true≢false (sym here ∙ unshadowed)))
      sides_leave corners_leave (titles_leave a titles)

-- a non-empty meeting with a screen of fewer than 2^15 columns
pub met-small : (screen : Screen) (area : Rect) → screen.columns < 2 ^ 15 → is_empty (meet area (area_of screen)) ≡ false → SmallArea (meet area (area_of screen))
met-small screen area few some =
    let sizes = not-empty (meet area (area_of screen)) some in
    record {
      wide = sizes.0;
      high = sizes.1;
      across = narrow _ (right_of area) screen.columns few sizes.0;
      down = low _ (area.y + area.height) (bottom_of (area_of screen)) sizes.1;
    }
  where
    narrow : (first end columns : ℕ) → columns < 2 ^ 15 → 0 < min end (held (0 + columns)) - first → first + (min end (held (0 + columns)) - first) ≤ 2 ^ 15
    narrow first end columns few h = omega arith

    low : (first end other : ℕ) → 0 < min (held end) other - first → first + (min (held end) other - first) ≤ 65535
    low first end other h = omega arith

module _ (styles : List ℕ) (screen : Screen) (few : screen.columns < 2 ^ 15) (a : AmbiguousWidth) (titles : List ℕ) (b : Block) (area : Rect) where
  pub elsewhere : (column row cell : ℕ) → contains (meet area (area_of screen)) column row ≡ false
      → in_shadow screen (meet area (area_of screen)) b.shadow column row ≡ false
      → block_of styles screen (titles_from a titles) b area column row cell ≡ cell
  unfolding block_of
  elsewhere column row cell outside unshadowed =
      let met = meet area (area_of screen) in
      only_keeps whole_cell column row (not (is_empty met)) (frame styles screen (titles_from a titles) b met)
      (λ some. frame_leaves styles b met (met-small screen area few (not-true (is_empty met) some)) column row outside a screen titles unshadowed) cell
    where
      not-true : (e : Bool) → not e ≡ true → e ≡ false
      not-true true h = absurd (true≢false (sym h))
      not-true false h = refl
