-- Drawing on the four parts of an area around another rectangle draws on every cell of the area outside that rectangle, once.
use Prim.Native.Nat.{ℕ, ◌+◌, ◌-◌, ◌<◌, ◌≤◌, min, max}
use mathlib.Core.Path.{◌≡◌, refl}
use mathlib.Core.Bool.{Bool, true, false, cond, ◌&&◌}
use mathlib.Core.Logic.{dite}
use mathlib.Core.List.{[], ◌∷◌}
use native.Mathlib.Decide.{dec_lt}
use native.Mathlib.Omega.{arith}
use Rattle.num.specs.Held.{held}
use Rattle.layout.specs.declared.Rect.{Rect}
use Rattle.layout.specs.Rect.{right_of, bottom_of, within}
use Rattle.buffer.specs.Drawing.{Drawing, over, sparing, only_if, in_order}
use Rattle.buffer.proofs.Within.{within-inside, within-before, within-past}
use Rattle.paint_outside.specs.AroundExtra.{above, below, left_of, right_from}

-- whether n lies from `first` to before `end`, the range being stored as its start and its size
abbrev spans : ℕ → ℕ → ℕ → Bool
spans first end n = within first (held (first + (end - first))) n

spans-inside : (first end n : ℕ) → end ≤ 65535 → first ≤ n → n < end → spans first end n ≡ true
spans-inside first end n small p q = within-inside first _ n p (omega arith)

spans-before : (first end n : ℕ) → n < first → spans first end n ≡ false
spans-before first end n p = within-before first _ n p

spans-past : (first end n : ℕ) → end ≤ n → spans first end n ≡ false
spans-past first end n p =
    dite (dec_lt n first) (spans-before first end n) (λ q. within-past first _ n (omega (arith, q)))

-- so storing a range as start and size keeps its numbers
spans_as_within : (first end n : ℕ) → end ≤ 65535 → spans first end n ≡ within first end n
spans_as_within first end n small =
    dite (dec_lt n first)
    (λ p. rw (spans-before first end n p, within-before first end n p))
    (λ p. dite (dec_lt n end)
    (λ q. rw (spans-inside first end n small (omega (arith, p)) q, within-inside first end n (omega (arith, p)) q))
    (λ q. rw (spans-past first end n (omega (arith, q)), within-past first end n (omega (arith, q)))))

-- Place of a column or row: outside the drawn range; or in it, and then before, within or past the spared range. The indices say
-- whether it is in the drawn range, in its part before, within and past the spared range, and in the spared range.
data Place : Bool → Bool → Bool → Bool → Bool → Type 0 where
  outside : (spared : Bool) → Place false false false false spared
  before : Place true true false false false
  middle : Place true false true false true
  past : Place true false false true false

-- the drawn range goes from `first` to before `end`, the spared range from `from` to before `to`
module _ (first end from to n : ℕ) where
  abbrev Placed : Type 0
  Placed = Place (within first end n) (spans first (min end from) n) (spans (max first from) (min end to) n) (spans (max first to) end n) (within from to n)

  -- before the drawn range
  placed_early : n < first → Placed
  placed_early a =
      rw (
        within-before first end n a,
        spans-before first (min end from) n a,
        spans-before (max first from) (min end to) n (omega arith),
        spans-before (max first to) end n (omega arith),
      )
      (outside _)

  -- past the drawn range
  placed-late : end ≤ n → Placed
  placed-late a =
      rw (
        within-past first end n a,
        spans-past first (min end from) n (omega arith),
        spans-past (max first from) (min end to) n (omega arith),
        spans-past (max first to) end n a,
      )
      (outside _)

  module _ (small : end ≤ 65535) (low : first ≤ n) (high : n < end) where
    -- in the drawn range, before the spared range
    placed-before : n < from → n < to → Placed
    placed-before a b =
        rw (
          within-inside first end n low high,
          spans-inside first (min end from) n (omega arith) low (omega arith),
          spans-before (max first from) (min end to) n (omega arith),
          spans-before (max first to) end n (omega arith),
          within-before from to n a,
        )
        before

    -- in both ranges
    placed-middle : from ≤ n → n < to → Placed
    placed-middle a b =
        rw (
          within-inside first end n low high,
          spans-past first (min end from) n (omega arith),
          spans-inside (max first from) (min end to) n (omega arith) (omega arith) (omega arith),
          spans-before (max first to) end n (omega arith),
          within-inside from to n a b,
        )
        middle

    -- in the drawn range, past the spared range
    placed_past : from ≤ n → to ≤ n → Placed
    placed_past a b =
        rw (
          within-inside first end n low high,
          spans-past first (min end from) n (omega arith),
          spans-past (max first from) (min end to) n (omega arith),
          spans-inside (max first to) end n small (omega arith) high,
          within-past from to n b,
        )
        past

  -- each column or row has a place
  placed : end ≤ 65535 → min from end ≤ to → Placed
  placed small sound =
      dite (dec_lt n first)
      placed_early
      (λ a. dite (dec_lt n end)
      (λ b. dite (dec_lt n from)
      (λ c. placed-before small (omega (arith, a)) b c (omega (arith, b, c)))
      (λ c. dite (dec_lt n to)
      (placed-middle small (omega (arith, a)) b (omega (arith, c)))
      (λ d. placed_past small (omega (arith, a)) b (omega (arith, c)) (omega (arith, d)))))
      (λ b. placed-late (omega (arith, b))))

-- a condition whose branches are equal
cond_same : (test : Bool) (x : ℕ) → cond test x x ≡ x
cond_same true x = refl
cond_same false x = refl

-- by the places of its column and row, a cell that is drawn and not spared lies in one of the four parts, any other in none
parts_draw_once : {columns left middle-column right spared-column rows upper middle-row lower spared-row : Bool}
    → Place columns left middle-column right spared-column → Place rows upper middle-row lower spared-row
    → (d : Drawing) (column row cell : ℕ)
    → in_order (only_if (columns && upper) d ∷ only_if (columns && lower) d ∷ only_if (left && middle-row) d ∷ only_if (right && middle-row) d ∷ []) column row cell
    ≡ cond (spared-column && spared-row) cell (only_if (columns && rows) d column row cell)
parts_draw_once (outside spared) p d column row cell = rw cond_same
parts_draw_once before (outside spared) d column row cell = refl
parts_draw_once before before d column row cell = refl
parts_draw_once before middle d column row cell = refl
parts_draw_once before past d column row cell = refl
parts_draw_once middle (outside spared) d column row cell = rw cond_same
parts_draw_once middle before d column row cell = refl
parts_draw_once middle middle d column row cell = refl
parts_draw_once middle past d column row cell = refl
parts_draw_once past (outside spared) d column row cell = refl
parts_draw_once past before d column row cell = refl
parts_draw_once past middle d column row cell = refl
parts_draw_once past past d column row cell = refl

-- drawing over the four parts in order is drawing over the area, sparing the other rectangle
pub around : (area spared : Rect) (f : ℕ → ℕ) (column row cell : ℕ)
    → in_order (over (above area spared) f ∷ over (below area spared) f ∷ over (left_of area spared) f ∷ over (right_from area spared) f ∷ []) column row cell
    ≡ sparing spared (over area f) column row cell
unfolding over sparing above below left_of right_from
around area spared f column row cell =
    rw (spans_as_within area.x (right_of area) column (omega arith)) (
    parts_draw_once (placed area.x (right_of area) spared.x (right_of spared) column (omega arith) (omega arith))
    (placed area.y (bottom_of area) spared.y (bottom_of spared) row (omega arith) (omega arith)) (λ column row cell. f cell) column row cell)
