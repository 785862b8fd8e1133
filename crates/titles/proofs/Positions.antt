-- The titles area of a non-empty rectangle at a position, and the titles drawn in it.
use Prim.Native.Nat.{ℕ, ◌+◌, ◌-◌, ◌<◌, ◌≤◌, ◌^◌, min}
use mathlib.Core.Path.{◌≡◌, refl, sym, ap, ◌∙◌}
use mathlib.Core.Bool.{false}
use mathlib.Core.List.{List, [], ◌∷◌, ◌++◌, reverse}
use native.Mathlib.Omega.{arith}
use borrow.Author.Tests.{eqb-false}
use lib.Dec.{eqb}
use Rattle.num.specs.Held.{held}
use Rattle.text.specs.declared.Alignment.TheVariants.{Left, Center, Right}
use Rattle.text.specs.declared.TitlePosition.{TitlePosition}
use Rattle.text.specs.declared.TitlePosition.TheVariants.{Top, Bottom}
use Rattle.text.proofs.Bools.{neither}
use Rattle.layout.specs.declared.Rect.{Rect}
use Rattle.layout.specs.Rect.{bottom_of, is_empty}
use Rattle.buffer.specs.declared.Screen.{Screen}
use Rattle.buffer.specs.Drawing.{drawn}
use Rattle.buffer.specs.PartsExtra.{OnScreen}
use Rattle.buffer.proofs.Drawn.{drawn_then, drawn-none}
use Rattle.block.specs.declared.Block.{Block}
use Rattle.block.specs.Inner.{at_left, at_right, taken}
use Rattle.titles.specs.Titles.{Title, filtered_titles, PlacedTitle, title_drawn, titles_drawn, titles_row, titles_area, left_titles, center_titles, right_titles, groups_in, titles_at, titles_on}
use Rattle.titles.specs.PlacingExtra.{AreaFits}

-- results of `titles_row` and `titles_area`
pub bottom-titles-row : (position : TitlePosition) (area : Rect) (bottom row : ℕ) → position ≡ Bottom → bottom ≡ bottom_of area → row ≡ bottom - 1 → row ≡ titles_row position area
bottom-titles-row position area bottom row e p q = rw (e, q, p)

pub titles-area_fields : (b : Block) (position : TitlePosition) (r : Rect) (left right x row without width : ℕ) → left ≡ taken (at_left b) → right ≡ taken (at_right b)
    → x ≡ held (r.x + left) → row ≡ titles_row position r → without ≡ r.width - left → width ≡ without - right
    → record { x = x; y = row; width = width; height = 1 } ≡ titles_area b position r
titles-area_fields b position r left right x row without width p q e f g h = rw (h, g, f, e, q, p)

pub ruleset titles-areas = (bottom-titles-row, titles-area_fields)

-- the titles area is in the rectangle's first or last row, which is on the screen
module _ (s : Screen) (n : ℕ) (met : Rect) (some : is_empty met ≡ false) (on : OnScreen s n met) (few : s.columns < 2 ^ 15) (low : s.rows < 2 ^ 15) where
  has_row : 0 < met.height
  has_row =
      let k = eqb-false met.height 0 (neither (eqb met.width 0) (eqb met.height 0) some).1 in
      omega (arith, k)

  row_inside : (position : TitlePosition) → titles_row position met < s.rows
  row_inside Top = omega (arith, has_row, on.bottom)
  row_inside Bottom = omega (arith, has_row, on.bottom)

  -- its right edge is on the screen
  right-inside : (x width left right : ℕ) → min (x + width) 65535 ≤ s.columns → 0 < width - left - right → min (min (x + left) 65535 + (width - left - right)) 65535 ≤ s.columns
  right-inside x width left right h k = omega arith

  pub titles-area-fits : (b : Block) (position : TitlePosition) (area : Rect) → area ≡ titles_area b position met → AreaFits s n area
  titles-area-fits b position area e = rw e fits
    where
      fits : AreaFits s n (titles_area b position met)
      fits room =
          let k = eqb-false (titles_area b position met).width 0 (neither _ _ room).0 in
          record {
            on_screen =
                record {
                  columns = on.columns;
                  size = on.size;
                  right = right-inside met.x met.width (taken (at_left b)) (taken (at_right b)) on.right (omega (arith, k));
                  bottom = omega (arith, row_inside position);
                };
            one_row = refl;
            in_rows = row_inside position;
            few_columns = few;
          }

pub titles-area-high : (b : Block) (position : TitlePosition) (met area : Rect) → area ≡ titles_area b position met → area.height ≡ 1
titles-area-high b position met area e = rw e

-- drawing keeps the number of cells
pub fits-same-length : (s : Screen) (m n : ℕ) (area : Rect) → AreaFits s m area → n ≡ m → AreaFits s n area
fits-same-length s m n area f e = rw e f

pub screen_has_columns : (s : Screen) (n : ℕ) (met : Rect) → OnScreen s n met → 0 < s.columns
screen_has_columns s n met on = on.columns

pub ruleset titles-fit = (titles-area-fits, titles-area-high, fits-same-length, screen_has_columns)

-- drawing one list of titles, then another
both-drawn : (columns : ℕ) (styles : List ℕ) (b : Block) (ps qs : List PlacedTitle) (cells next last : List ℕ)
    → next ≡ drawn columns (titles_drawn styles b ps) cells → last ≡ drawn columns (titles_drawn styles b qs) next
    → last ≡ drawn columns (titles_drawn styles b (ps ++ qs)) cells
both-drawn columns styles b [] qs cells next last p q = q ∙ ap (drawn columns (titles_drawn styles b qs)) (p ∙ drawn-none columns cells)
both-drawn columns styles b (x ∷ ps) qs cells next last p q =
    both-drawn columns styles b ps qs (drawn columns (title_drawn styles b x) cells) next last
    (p ∙ sym (drawn_then columns (title_drawn styles b x) (titles_drawn styles b ps) cells)) q
    ∙ drawn_then columns (title_drawn styles b x) (titles_drawn styles b (ps ++ qs)) cells

module _ (columns : ℕ) (styles : List ℕ) (b : Block) (met : Rect) (titles : List Title) (cells : List ℕ) where
  -- left, centre, right titles
  pub groups_drawn : (position : TitlePosition) (area : Rect) (first second last : List ℕ)
      → first ≡ drawn columns (titles_drawn styles b (left_titles area (filtered_titles b position Left titles))) cells
      → second ≡ drawn columns (titles_drawn styles b (center_titles area (filtered_titles b position Center titles))) first
      → last ≡ drawn columns (titles_drawn styles b (right_titles area (reverse (filtered_titles b position Right titles)))) second
      → last ≡ drawn columns (titles_drawn styles b (groups_in b position area titles)) cells
  unfolding groups_in
  groups_drawn position area first second last p q r =
      let left : List PlacedTitle = left_titles area (filtered_titles b position Left titles) in
      let center : List PlacedTitle = center_titles area (filtered_titles b position Center titles) in
      both-drawn columns styles b (left ++ center) _ cells second last (both-drawn columns styles b left center cells first second p q) r

  -- in the titles area of the position
  pub position_drawn : (position : TitlePosition) (area : Rect) (last : List ℕ) → area ≡ titles_area b position met
      → last ≡ drawn columns (titles_drawn styles b (groups_in b position area titles)) cells
      → last ≡ drawn columns (titles_drawn styles b (titles_at b position met titles)) cells
  position_drawn position area last e p = rw e at p

  -- top titles, bottom titles
  pub titles-drawn : (first last : List ℕ) → first ≡ drawn columns (titles_drawn styles b (titles_at b Top met titles)) cells
      → last ≡ drawn columns (titles_drawn styles b (titles_at b Bottom met titles)) first → last ≡ drawn columns (titles_on styles b met titles) cells
  unfolding titles_on
  titles-drawn first last p q = both-drawn columns styles b (titles_at b Top met titles) (titles_at b Bottom met titles) cells first last p q

pub ruleset positions = (groups_drawn, position_drawn, titles-drawn)
