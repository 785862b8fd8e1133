-- Left titles are `placed_titles` from the left edge of their area.
use Prim.Native.Nat.{ℕ, ◌-◌, ◌<◌, ◌≤◌, min}
use mathlib.Core.Path.{◌≡◌, refl, sym, ap, ◌∙◌}
use mathlib.Core.Bool.{Bool, true, false}
use mathlib.Core.Logic.{dite}
use mathlib.Core.List.{List, [], ◌∷◌}
use native.Mathlib.Decide.{dec_lt}
use native.Mathlib.Omega.{arith}
use borrow.Author.Tests.{eq-eqb}
use lib.ListN.{length}
use Rattle.layout.specs.declared.Rect.{Rect}
use Rattle.layout.specs.Rect.{is_empty}
use Rattle.buffer.specs.declared.Screen.{Screen}
use Rattle.buffer.specs.Drawing.{drawn}
use Rattle.block.specs.declared.Block.{Block}
use Rattle.titles.specs.declared.Place.{Place}
use Rattle.titles.specs.Titles.{Title, title_width, PlacedTitle, titles_drawn, past_title, left_titles}
use Rattle.titles.specs.PlacingExtra.{placed_width, next_place, placed_titles, AreaFits}
use Rattle.titles.proofs.Areas.{edge-within}
use Rattle.titles.proofs.Placing.{placed-none}

-- the place at the left edge of an area
abbrev left_place : Rect → Place
left_place area = record { area = area; offset = 0; truncates = false }

-- an empty area gets no title
left-none : (area : Rect) (ts : List Title) → is_empty area ≡ true → left_titles area ts ≡ []
left-none area [] e = refl
left-none area (t ∷ ts) e = rw e

both-none : (area : Rect) (ts : List Title) → is_empty area ≡ true → left_titles area ts ≡ placed_titles (left_place area) ts
both-none area ts e = left-none area ts e ∙ sym (placed-none (left_place area) ts e)

-- a non-empty area
module _ (area : Rect) (t : Title) (ts : List Title) (some-room : is_empty area ≡ false) where
  abbrev Same : Type 0
  Same = left_titles area (t ∷ ts) ≡ placed_titles (left_place area) (t ∷ ts)

  -- if the title fits, the others are placed in the same remaining area
  title-whole : title_width t ≤ area.width → left_titles (past_title (title_width t) area) ts ≡ placed_titles (left_place (past_title (title_width t) area)) ts
      → Same
  title-whole h others =
      let left : min (title_width t) area.width ≡ title_width t = omega arith in
      let placed : placed_width (left_place area) (title_width t) ≡ title_width t = omega arith in
      let offset : 0 - title_width t - 1 ≡ 0 = omega arith in
      rw (some-room, left, placed, offset, others)

  -- a title that is cut off takes the whole width: no other title is placed
  title_cut : area.width < title_width t → area.width ≤ 65535 → Same
  title_cut h k =
      let left : min (title_width t) area.width ≡ area.width = omega arith in
      let placed : placed_width (left_place area) (title_width t) ≡ area.width = omega arith in
      let next : Place = next_place (left_place area) area.width in
      let no-left : left_titles (past_title (title_width t) area) ts ≡ [] = left-none (past_title (title_width t) area) ts (rw (eq-eqb (past_title (title_width t) area).width 0 (omega arith))) in
      let no-placed : placed_titles next ts ≡ [] = placed-none next ts (rw (eq-eqb next.area.width 0 (omega arith))) in
      rw (some-room, left, placed, no-left, no-placed)

left-titles-placed : (area : Rect) (ts : List Title) → area.width ≤ 65535 → left_titles area ts ≡ placed_titles (left_place area) ts
left-titles-placed area [] k = refl
left-titles-placed area (t ∷ ts) k = go (is_empty area) refl (left-titles-placed (past_title (title_width t) area) ts (omega arith))
  where
    go : (empty : Bool) → is_empty area ≡ empty
        → left_titles (past_title (title_width t) area) ts ≡ placed_titles (left_place (past_title (title_width t) area)) ts
        → left_titles area (t ∷ ts) ≡ placed_titles (left_place area) (t ∷ ts)
    go true e others = both-none area (t ∷ ts) e
    go false e others =
        dite (dec_lt area.width (title_width t))
        (λ (h : area.width < title_width t). title_cut area t ts e h k)
        (λ n. title-whole area t ts e (omega (arith, n)) others)

-- drawing `placed_titles` from there draws the left titles
pub left-drawn : (styles : List ℕ) (b : Block) (s : Screen) (area : Rect) (ts : List Title) (cells after : List ℕ) → AreaFits s (length cells) area
    → after ≡ drawn s.columns (titles_drawn styles b (placed_titles (left_place area) ts)) cells
    → after ≡ drawn s.columns (titles_drawn styles b (left_titles area ts)) cells
left-drawn styles b s area ts cells after fits e =
    e ∙ ap (λ (placed : List PlacedTitle). drawn s.columns (titles_drawn styles b placed) cells) (sym (same (is_empty area) refl))
  where
    same : (empty : Bool) → is_empty area ≡ empty → left_titles area ts ≡ placed_titles (left_place area) ts
    same true h = both-none area ts h
    same false h = left-titles-placed area ts (omega (arith, edge-within s (length cells) area (fits h)))
