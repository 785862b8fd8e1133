-- Theorem `titles-beside`: titles change only cells in the columns of their block, if its right edge is at most 2^15. Near 65,535 the
-- total width of centred titles saturates, and they could be placed past the right edge.
use Prim.Native.Nat.{ℕ, ◌+◌, ◌-◌, ◌/◌, ◌^◌, ◌<◌, ◌≤◌, min, max}
use mathlib.Core.Path.{◌≡◌, refl, sym, ◌∙◌}
use mathlib.Core.Bool.{Bool, true, false, cond, true≢false}
use mathlib.Core.Logic.{inl, inr, dite}
use mathlib.Core.List.{List, [], ◌∷◌, ◌++◌, reverse}
use native.Mathlib.Decide.{dec_lt}
use native.Mathlib.Omega.{arith}
use borrow.Author.Tests.{leb-true}
use lib.Dec.{leb}
use Rattle.num.specs.Held.{held}
use Rattle.text.specs.declared.Alignment.TheVariants.{Left, Center, Right}
use Rattle.text.specs.declared.TitlePosition.{TitlePosition}
use Rattle.text.specs.declared.TitlePosition.TheVariants.{Top, Bottom}
use Rattle.layout.specs.declared.Rect.{Rect}
use Rattle.layout.specs.Rect.{is_empty, contains}
use Rattle.buffer.proofs.Keeping.{Keeps, whole_cell}
use Rattle.buffer.proofs.Within.{cell_outside}
use Rattle.block.specs.declared.Block.{Block}
use Rattle.block.specs.Inner.{at_left, at_right, taken}
use Rattle.titles.specs.Titles.{Title, filtered_titles, PlacedTitle, title_width, spaced_from, total_width, titles_area, past_title, centered_from, center_offset, truncated_width, before_title, left_titles, untruncated_titles, truncated_titles, center_titles, right_titles, groups_in, titles_at, titles_on}
use Rattle.titles.proofs.Keeping.{KeptInAreas, placed_keep}

-- ---- columns of the parts of an area at x of width w

module _ (x w t column : ℕ) where
  past-some : held (x + held (t + 1)) ≤ column → column < held (x + held (t + 1)) + (w - held (t + 1)) → 0 < w
  past-some low high = omega arith

  past-low : held (x + held (t + 1)) ≤ column → column < held (x + held (t + 1)) + (w - held (t + 1)) → x + w ≤ 2 ^ 15 → x ≤ column
  past-low low high few = omega arith

  past-high : held (x + held (t + 1)) ≤ column → column < held (x + held (t + 1)) + (w - held (t + 1)) → x + w ≤ 2 ^ 15 → column < x + w
  past-high low high few = omega arith

  past-few : 0 < w - held (t + 1) → x + w ≤ 2 ^ 15 → held (x + held (t + 1)) + (w - held (t + 1)) ≤ 2 ^ 15
  past-few some few = omega arith

  right-some : max (held (x + w) - t) x ≤ column → column < max (held (x + w) - t) x + min t w → 0 < w
  right-some low high = omega arith

  right-low : max (held (x + w) - t) x ≤ column → x ≤ column
  right-low low = omega arith

  right-high : column < max (held (x + w) - t) x + min t w → x + w ≤ 2 ^ 15 → column < x + w
  right-high high few = omega arith

-- a title of width t that starts `sum` columns after `first`; `next` is the sum after it
module _ (first sum t end next : ℕ) (e : next ≡ held (sum + held (t + 1))) (fits : first + (next - 1) ≤ end) (few : end ≤ 2 ^ 15) where
  ends-within : first + sum + t ≤ end
  ends-within = omega arith

  next_starts : held (first + sum + held (t + 1)) ≡ first + next
  next_starts = omega arith

middle-low : (x w total column : ℕ) → total ≤ w → x + w ≤ 2 ^ 15 → held (x + (w - total) / 2) ≤ column → x ≤ column
middle-low x w total column h few low = omega arith

middle-end : (x w total : ℕ) → total ≤ w → x + w ≤ 2 ^ 15 → held (x + (w - total) / 2) + total ≤ x + w
middle-end x w total h few = omega arith

-- the sum of spaced widths only grows
spaced-least : (sum : ℕ) (ts : List Title) → sum ≤ 65535 → sum ≤ spaced_from sum ts
spaced-least sum [] h = omega arith
spaced-least sum (t ∷ ts) h =
    let next : ℕ = held (sum + held (title_width t + 1)) in
    let grown : sum ≤ next = omega arith in
    omega (arith, spaced-least next ts (omega arith))

-- ---- titles are placed within the columns of their area

module _ (column : ℕ) where
  -- the column isn't one of the area's
  abbrev Beside : Rect → Type 0
  Beside area = area.x ≤ column → column < area.x + area.width → ⊥

  -- nor does the area's right edge saturate, unless the area is empty
  record Aside (area : Rect) : Type 0 where
    beside : Beside area
    few : 0 < area.width → area.x + area.width ≤ 2 ^ 15

  abbrev AllBeside : List PlacedTitle → Type 0
  AllBeside [] = Unit {0}
  AllBeside (p ∷ ps) = Beside p.area × AllBeside ps

  either_beside : (test : Bool) (ps qs : List PlacedTitle) → AllBeside ps → AllBeside qs → AllBeside (cond test ps qs)
  either_beside true ps qs e f = e
  either_beside false ps qs e f = f

  both-beside : (ps qs : List PlacedTitle) → AllBeside ps → AllBeside qs → AllBeside (ps ++ qs)
  both-beside [] qs e f = f
  both-beside (p ∷ ps) qs e f = (e.0, both-beside ps qs e.1 f)

  past_aside : (width : ℕ) (area : Rect) → Aside area → Aside (past_title width area)
  past_aside width area a =
      record {
        beside = λ low high.
            let few = a.few (past-some area.x area.width width column low high) in
            a.beside (past-low area.x area.width width column low high few) (past-high area.x area.width width column low high few);
        few = λ some. past-few area.x area.width width column some (a.few (omega arith));
      }

  left-beside : (area : Rect) (ts : List Title) → Aside area → AllBeside (left_titles area ts)
  left-beside area [] a = tt
  left-beside area (t ∷ ts) a =
      either_beside (is_empty area) [] _ tt
      (λ low high. a.beside low (omega arith), left-beside (past_title (title_width t) area) ts (past_aside (title_width t) area a))

  truncated_beside : (offset : ℕ) (area : Rect) (ts : List Title) → Aside area → AllBeside (truncated_titles offset area ts)
  truncated_beside offset area [] a = tt
  truncated_beside offset area (t ∷ ts) a =
      let width : ℕ = truncated_width offset area t in
      either_beside (is_empty area) [] _ tt
      (λ low high. a.beside low (omega arith), truncated_beside (offset - width - 1) (past_title width area) ts (past_aside width area a))

  untruncated_beside : (first sum end : ℕ) (area : Rect) (ts : List Title) → area.x ≡ first + sum → first + (spaced_from sum ts - 1) ≤ end → end ≤ 2 ^ 15
      → (first ≤ column → column < end → ⊥) → AllBeside (untruncated_titles area ts)
  untruncated_beside first sum end area [] at fits few out = tt
  untruncated_beside first sum end area (t ∷ ts) at fits few out =
      let next : ℕ = held (sum + held (title_width t + 1)) in
      let least : next ≤ spaced_from next ts = spaced-least next ts (omega arith) in
      let within : first + (next - 1) ≤ end = omega (arith, fits, least) in
      let ends = ends-within first sum (title_width t) end next refl within few in
      let starts = next_starts first sum (title_width t) end next refl within few in (
        λ low high. out (omega (arith, at)) (omega (arith, at, ends)),
        untruncated_beside first next end (past_title (title_width t) area) ts (rw at starts) fits few out,
      )

  center-beside : (area : Rect) (ts : List Title) → area.x + area.width ≤ 2 ^ 15 → Beside area → AllBeside (center_titles area ts)
  unfolding center_titles
  center-beside area ts few out = go (leb (total_width ts) area.width) refl
    where
      go : (b : Bool) → leb (total_width ts) area.width ≡ b
          → AllBeside (cond b (untruncated_titles (centered_from (total_width ts) area) ts) (truncated_titles (center_offset (total_width ts) area) area ts))
      go true e =
          let fits : total_width ts ≤ area.width = leb-true (total_width ts) area.width e in
          let middle : ℕ = (centered_from (total_width ts) area).x in
          let end = middle-end area.x area.width (total_width ts) fits few in
          untruncated_beside middle 0 (area.x + area.width) (centered_from (total_width ts) area) ts (omega arith) end few
          (λ low high. out (middle-low area.x area.width (total_width ts) column fits few low) high)
      go false e = truncated_beside (center_offset (total_width ts) area) area ts (record { beside = out; few = λ some. few })

  right-beside : (area : Rect) (ts : List Title) → Aside area → AllBeside (right_titles area ts)
  right-beside area [] a = tt
  right-beside area (t ∷ ts) a =
      either_beside (is_empty area) [] _ tt (
        λ low high.
            a.beside (right-low area.x area.width (title_width t) column low)
            (right-high area.x area.width (title_width t) column high (a.few (right-some area.x area.width (title_width t) column low high))),
        right-beside (before_title (title_width t) area) ts (record { beside = λ low high. a.beside low (omega arith); few = λ some. omega (arith, a.few (omega arith)) }),
      )

  -- ---- the titles area lies within the columns of the block

  module _ (b : Block) (met : Rect) (some : 0 < met.width) (few : met.x + met.width ≤ 2 ^ 15) (out : Beside met) where
    taken-few : (l r : Bool) (x w : ℕ) → 0 < w → x + w ≤ 2 ^ 15 → held (x + taken l) + (w - taken l - taken r) ≤ 2 ^ 15
    taken-few true true x w p q = omega arith
    taken-few true false x w p q = omega arith
    taken-few false true x w p q = omega arith
    taken-few false false x w p q = omega arith

    taken-low : (l : Bool) (x w : ℕ) → 0 < w → x + w ≤ 2 ^ 15 → held (x + taken l) ≤ column → x ≤ column
    taken-low true x w p q low = omega arith
    taken-low false x w p q low = omega arith

    taken-high : (l r : Bool) (x w : ℕ) → x + w ≤ 2 ^ 15 → held (x + taken l) ≤ column → column < held (x + taken l) + (w - taken l - taken r) → column < x + w
    taken-high true true x w q low high = omega arith
    taken-high true false x w q low high = omega arith
    taken-high false true x w q low high = omega arith
    taken-high false false x w q low high = omega arith

    group_beside : (position : TitlePosition) (ts : List Title) → AllBeside (titles_at b position met ts)
    unfolding groups_in
    group_beside position ts =
        let area = titles_area b position met in
        let narrow : area.x + area.width ≤ 2 ^ 15 = taken-few (at_left b) (at_right b) met.x met.width some few in
        let clear : Beside area = λ low high. out (taken-low (at_left b) met.x met.width some few low) (taken-high (at_left b) (at_right b) met.x met.width few low high) in
        let a : Aside area = record { beside = clear; few = λ _. narrow } in
        both-beside (left_titles area (filtered_titles b position Left ts) ++ center_titles area (filtered_titles b position Center ts)) _
        (both-beside (left_titles area (filtered_titles b position Left ts)) _
        (left-beside area (filtered_titles b position Left ts) a) (center-beside area (filtered_titles b position Center ts) narrow clear))
        (right-beside area (reverse (filtered_titles b position Right ts)) a)

    -- ---- so the cell is unchanged

    beside-outside : (row : ℕ) (area : Rect) → Beside area → contains area column row ≡ false
    beside-outside row area clear =
        dite (dec_lt column area.x)
        (λ p. cell_outside _ _ _ _ column row (inl p))
        (λ n. dite (dec_lt column (area.x + area.width))
        (λ p. absurd (clear (omega (arith, n)) p))
        (λ m. cell_outside _ _ _ _ column row (inr (inl (omega (arith, m))))))

    beside-kept : (row : ℕ) (styles : List ℕ) (ps : List PlacedTitle) → AllBeside ps → KeptInAreas whole_cell column row styles ps
    beside-kept row styles [] clear = tt
    beside-kept row styles (p ∷ ps) clear =
        (λ here. absurd (true≢false (sym here ∙ beside-outside row p.area clear.0)), beside-kept row styles ps clear.1)

    pub titles-beside : (row : ℕ) (styles : List ℕ) (ts : List Title) → Keeps whole_cell (titles_on styles b met ts) column row
    unfolding titles_on
    titles-beside row styles ts =
        let placed = titles_at b Top met ts ++ titles_at b Bottom met ts in
        placed_keep whole_cell column row styles b placed
        (beside-kept row styles placed (both-beside (titles_at b Top met ts) _ (group_beside Top ts) (group_beside Bottom ts)))
