-- Centred titles are `placed_titles` in the middle of their area, or truncated ones from its left edge.
use Prim.Native.Nat.{ℕ, ◌+◌, ◌-◌, ◌<◌, ◌≤◌, ◌^◌}
use mathlib.Core.Path.{◌≡◌, refl, sym, ap, ◌∙◌}
use mathlib.Core.Bool.{Bool, true, false, cond}
use mathlib.Core.Logic.{dite}
use mathlib.Core.List.{List, [], ◌∷◌}
use native.Mathlib.Decide.{dec_lt}
use native.Mathlib.Omega.{arith}
use borrow.Author.Tests.{eq-eqb, leb-true}
use lib.Dec.{leb}
use lib.ListN.{length}
use Rattle.num.specs.Held.{held}
use Rattle.layout.specs.declared.Rect.{Rect}
use Rattle.layout.specs.Rect.{is_empty}
use Rattle.buffer.specs.declared.Screen.{Screen}
use Rattle.buffer.specs.Drawing.{drawn}
use Rattle.buffer.proofs.Drawn.{drawn-same}
use Rattle.block.specs.declared.Block.{Block}
use Rattle.title.proofs.Cells.{nothing-drawn}
use Rattle.titles.specs.declared.Place.{Place}
use Rattle.titles.specs.Titles.{Title, title_width, PlacedTitle, given_alignment, titles_drawn, with_width, past_title, spaced_from, total_width, centered_from, untruncated_titles, center_offset, truncated_width, placed_truncated, truncated_titles, center_titles}
use Rattle.titles.specs.PlacingExtra.{placed_width, placed_titles, center_place, AreaFits}
use Rattle.titles.proofs.Areas.{area-narrow, one-row-some}
use Rattle.titles.proofs.Placing.{placed-none}
use Rattle.titles.proofs.Spaced.{spaced_sum, total_plain}

-- the place at an area's left edge with this width, without truncation
abbrev whole_place : ℕ → Rect → Place
whole_place width r = record { area = with_width width r; offset = 0; truncates = false }

-- with truncation, `placed_titles` is the rule itself
truncated_titles-placed : (offset : ℕ) (area : Rect) (ts : List Title)
    → truncated_titles offset area ts ≡ placed_titles (record { area = area; offset = offset; truncates = true }) ts
truncated_titles-placed offset area [] = refl
truncated_titles-placed offset area (t ∷ ts) =
    ap {B = List PlacedTitle} (λ (placed : List PlacedTitle). cond (is_empty area) [] (placed_truncated offset area t ∷ placed))
    (truncated_titles-placed (offset - truncated_width offset area t - 1) (past_title (truncated_width offset area t) area) ts)

module _ (styles : List ℕ) (b : Block) (column row : ℕ) where
  -- a cell after drawing titles without truncation, or from a place
  abbrev whole : Rect → List Title → ℕ → ℕ
  whole r ts cell = titles_drawn styles b (untruncated_titles r ts) column row cell

  abbrev onward : Place → List Title → ℕ → ℕ
  onward p ts cell = titles_drawn styles b (placed_titles p ts) column row cell

  -- if no width remains, a single title of width 0 remains, which draws nothing
  last_none : (r : Rect) (t : Title) (ts : List Title) (cell : ℕ) → spaced_sum (t ∷ ts) - 1 ≡ 0 → whole r (t ∷ ts) cell ≡ cell
  last_none r t [] cell e =
      nothing-drawn styles b.titles_style (with_width (title_width t) r) (given_alignment t.head) t.glyphs column row cell (omega arith)
  last_none r t (u ∷ ts) cell e = absurd (omega arith)

  -- if there is room for the first title, the others are placed after it
  first-whole : (r : Rect) (width : ℕ) (t : Title) (ts : List Title) (cell : ℕ) → r.height ≡ 1 → 0 < width → title_width t ≤ width
      → ((c : ℕ) → whole (past_title (title_width t) r) ts c ≡ onward (whole_place (width - held (title_width t + 1)) (past_title (title_width t) r)) ts c)
      → whole r (t ∷ ts) cell ≡ onward (whole_place width r) (t ∷ ts) cell
  first-whole r width t ts cell high some h others =
      let placed : placed_width (whole_place width r) (title_width t) ≡ title_width t = omega arith in
      let offset : 0 - title_width t - 1 ≡ 0 = omega arith in
      rw (one-row-some (with_width width r) high some, placed, offset) (others _)

  -- without truncation, a place is as wide as the remaining titles
  untruncated_from_place : (r : Rect) (width : ℕ) (ts : List Title) (cell : ℕ) → r.height ≡ 1 → width ≡ spaced_sum ts - 1 → spaced_sum ts < 65535
      → whole r ts cell ≡ onward (whole_place width r) ts cell
  untruncated_from_place r width [] cell high e k = refl
  untruncated_from_place r width (t ∷ ts) cell high e k =
      dite (dec_lt 0 width)
      (λ (some : 0 < width). first-whole r width t ts cell high some (omega arith)
      (λ c. untruncated_from_place (past_title (title_width t) r) (width - held (title_width t + 1)) ts c high (omega arith) (omega arith)))
      (λ n.
      let z : width ≡ 0 = omega (arith, n) in
      last_none r t ts cell (sym e ∙ z)
      ∙ ap (λ (placed : List PlacedTitle). titles_drawn styles b placed column row cell) (sym (placed-none (whole_place width r) (t ∷ ts) (rw (eq-eqb width 0 z)))))

  -- `center_place` truncates when the rule does
  center-from_place : (area : Rect) (ts : List Title) (cell : ℕ) → area.height ≡ 1 → area.width < 2 ^ 15
      → titles_drawn styles b (center_titles area ts) column row cell ≡ onward (center_place area (total_width ts)) ts cell
  unfolding center_titles center_place
  center-from_place area ts cell high few = go (leb (total_width ts) area.width) refl
    where
      middle : Rect
      middle = centered_from (total_width ts) area

      offset : ℕ
      offset = center_offset (total_width ts) area

      go : (fits : Bool) → leb (total_width ts) area.width ≡ fits
          → titles_drawn styles b (cond fits (untruncated_titles middle ts) (truncated_titles offset area ts)) column row cell
          ≡ onward (cond fits (whole_place (total_width ts) middle) (record { area = area; offset = offset; truncates = true })) ts cell
      go true e =
          let plain = total_plain ts area.width (leb-true (total_width ts) area.width e) (omega arith) in
          untruncated_from_place middle (total_width ts) ts cell high plain.0 plain.1
      go false e = ap (λ (placed : List PlacedTitle). titles_drawn styles b placed column row cell) (truncated_titles-placed offset area ts)

-- drawing `placed_titles` from that place draws the centred titles
pub center-drawn : (styles : List ℕ) (b : Block) (s : Screen) (area : Rect) (ts : List Title) (cells after : List ℕ) (spaced total : ℕ) (p : Place) → 0 < s.columns → AreaFits s (length cells) area → area.height ≡ 1
    → spaced ≡ spaced_from 0 ts → total ≡ spaced - 1 → p ≡ center_place area total
    → after ≡ drawn s.columns (titles_drawn styles b (placed_titles p ts)) cells → after ≡ drawn s.columns (titles_drawn styles b (center_titles area ts)) cells
center-drawn styles b s area ts cells after spaced total p some fits high es et ep e =
    let place : p ≡ center_place area (total_width ts) = ep ∙ ap (center_place area) (et ∙ ap (λ (n : ℕ). n - 1) es) in
    e ∙ rw place (drawn-same s.columns _ _ cells some (λ column row cell _. sym (center-from_place styles b column row area ts cell high (area-narrow s (length cells) area high fits))))
