-- Parts of the titles area lie on the screen: the rest after a title, and the middle for centred titles.
use Prim.Native.Nat.{ℕ, ◌+◌, ◌-◌, ◌/◌, ◌<◌, ◌≤◌, ◌^◌}
use mathlib.Core.Path.{◌≡◌, refl, sym, ◌∙◌}
use mathlib.Core.Bool.{Bool, true, false, cond}
use mathlib.Core.Logic.{dite}
use native.Mathlib.Decide.{dec_lt}
use native.Mathlib.Omega.{arith}
use borrow.Author.Tests.{eqb-false, ne_eqb, leb-true}
use lib.Dec.{eqb, leb}
use Rattle.text.proofs.Bools.{neither}
use Rattle.num.specs.Held.{held}
use Rattle.layout.specs.declared.Rect.{Rect}
use Rattle.layout.specs.Rect.{is_empty}
use Rattle.buffer.specs.declared.Screen.{Screen}
use Rattle.title.specs.FittingExtra.{TitleArea}
use Rattle.titles.specs.declared.Place.{Place}
use Rattle.titles.specs.Titles.{with_x, with_width, past_title, centered_from, center_offset}
use Rattle.titles.specs.PlacingExtra.{center_place, AreaFits}

-- a non-empty rectangle has a column
some_columns : (r : Rect) → is_empty r ≡ false → 0 < r.width
some_columns r h =
    let n = eqb-false r.width 0 (neither (eqb r.width 0) (eqb r.height 0) h).0 in
    omega (arith, n)

-- and a row, so it is non-empty with any other width above 0
non_empty_with_width : (r : Rect) (x width : ℕ) → is_empty r ≡ false → 0 < width → is_empty (with_x x (with_width width r)) ≡ false
non_empty_with_width r x width h k = rw (ne_eqb width 0 (λ e. omega arith)) (neither (eqb r.width 0) (eqb r.height 0) h).1

-- an area of one row with a column is non-empty
pub one-row-some : (r : Rect) → r.height ≡ 1 → 0 < r.width → is_empty r ≡ false
one-row-some r e h = rw (e, ne_eqb r.width 0 (λ z. omega arith))

-- The area is empty or lies on the screen, and `empty` is the result of testing whether it is empty.
pub record TestedArea (s : Screen) (cells : ℕ) (area : Rect) (empty : Bool) : Type 0 where
  pub fits : AreaFits s cells area
  pub tested : empty ≡ is_empty area

module _ (s : Screen) (cells : ℕ) (area : Rect) where
  -- its right edge doesn't saturate
  pub edge-within : TitleArea s cells area → area.x + area.width < 2 ^ 15
  edge-within f = omega (arith, f.on_screen.right, f.few_columns)

  -- columns that end within it lie on the screen
  columns_fit : (x width : ℕ) → TitleArea s cells area → x + width ≤ area.x + area.width → TitleArea s cells (with_x x (with_width width area))
  columns_fit x width f h =
      record {
        on_screen =
            record {
              columns = f.on_screen.columns;
              size = f.on_screen.size;
              right = omega (arith, h, f.on_screen.right, f.few_columns);
              bottom = f.on_screen.bottom;
            };
        one_row = f.one_row;
        in_rows = f.in_rows;
        few_columns = f.few_columns;
      }

  -- a non-empty area lies on the screen
  pub room_fits : (empty : Bool) → AreaFits s cells area → empty ≡ is_empty area → empty ≡ false → TitleArea s cells area
  room_fits empty f e h = f (sym e ∙ h)

  -- an area of one row has fewer than 2^15 columns
  pub area-narrow : area.height ≡ 1 → AreaFits s cells area → area.width < 2 ^ 15
  area-narrow high fits =
      dite (dec_lt 0 area.width)
      (λ (some : 0 < area.width). omega (arith, edge-within (fits (one-row-some area high some))))
      (λ n. omega (arith, n))

-- the area remaining after a title
pub past_fits : (s : Screen) (cells : ℕ) (area : Rect) (width : ℕ) → TitleArea s cells area → AreaFits s cells (past_title width area)
past_fits s cells area width f h =
    let k : 0 < (past_title width area).width = some_columns (past_title width area) h in
    let e : area.x + area.width < 2 ^ 15 = edge-within s cells area f in
    columns_fit s cells area (past_title width area).x (past_title width area).width f (past-edge area.x area.width width e k)
  where
    past-edge : (x w t : ℕ) → x + w < 2 ^ 15 → 0 < w - held (t + 1) → held (x + held (t + 1)) + (w - held (t + 1)) ≤ x + w
    past-edge x w t e k = omega arith

-- the area of the first centred title: the middle of the titles area, or all of it
pub center-area-fits : (s : Screen) (cells : ℕ) (area : Rect) (total : ℕ) (p : Place) → AreaFits s cells area → p ≡ center_place area total → AreaFits s cells p.area
unfolding center_place
center-area-fits s cells area total p fits e = rw e (go (leb total area.width) refl)
  where
    middle : Rect
    middle = with_width total (centered_from total area)

    middle-edge : (x width : ℕ) → x + width < 2 ^ 15 → total ≤ width → held (x + (width - total) / 2) + total ≤ x + width
    middle-edge x width few h = omega arith

    go : (b : Bool) → leb total area.width ≡ b
        → AreaFits s cells (cond {A = Place} b (record { area = middle; offset = 0; truncates = false }) (record { area = area; offset = center_offset total area; truncates = true })).area
    go true e h =
        let k : total ≤ area.width = leb-true total area.width e in
        let f : TitleArea s cells area = fits (non_empty_with_width middle area.x area.width h (omega (arith, some_columns middle h))) in
        columns_fit s cells area middle.x total f (middle-edge area.x area.width (edge-within s cells area f) k)
    go false e h = fits h
