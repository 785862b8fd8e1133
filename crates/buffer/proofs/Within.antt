-- Laws of `within`, for a number in a range and for a cell in ranges of columns and rows.
use Prim.Native.Nat.{ℕ, suc, ◌+◌, ◌<◌, ◌≤◌}
use mathlib.Core.Path.{◌≡◌}
use mathlib.Core.Bool.{true, false, ◌&&◌, and-false}
use mathlib.Core.Logic.{◌⊎◌, inl, inr, dite}
use native.Mathlib.Decide.{dec_le}
use native.Mathlib.Omega.{arith}
use borrow.Author.Tests.{lt-ltb, le-ltb, le-leb, lt-leb}
use lib.Dec.{leb}
use Rattle.layout.specs.Rect.{within}

pub within-inside : (first end n : ℕ) → first ≤ n → n < end → within first end n ≡ true
within-inside first end n low high = simp (le-leb first n low, lt-ltb n end high)

pub within-before : (first end n : ℕ) → n < first → within first end n ≡ false
within-before first end n h = simp (lt-leb first n h)

pub within-past : (first end n : ℕ) → end ≤ n → within first end n ≡ false
within-past first end n h = simp (le-ltb n end h, and-false)

leb_shift : (a m n : ℕ) → leb (a + m) (a + n) ≡ leb m n
leb_shift a m n =
    dite (dec_le m n)
    (λ h. simp (le-leb m n h, le-leb (a + m) (a + n) (omega (arith, h))))
    (λ h. simp (lt-leb m n (omega (arith, h)), lt-leb (a + m) (a + n) (omega (arith, h))))

-- adding the same number to all three changes nothing
pub within_shift : (a first end n : ℕ) → within (a + first) (a + end) (a + n) ≡ within first end n
within_shift a first end n =
    let e : suc (a + n) ≡ a + suc n = omega arith in
    rw (e, leb_shift a first n, leb_shift a (suc n) end)

-- a cell inside a range of columns and a range of rows
pub cell_inside : (left right y bottom column row : ℕ) → left ≤ column → column < right → y ≤ row → row < bottom
    → (within left right column && within y bottom row) ≡ true
cell_inside left right y bottom column row p q s t = simp (within-inside left right column p q, within-inside y bottom row s t)

-- a cell outside one of them
pub cell_outside : (left right y bottom column row : ℕ) → (column < left) ⊎ (right ≤ column) ⊎ (row < y) ⊎ (bottom ≤ row)
    → (within left right column && within y bottom row) ≡ false
cell_outside left right y bottom column row (inl p) = simp (within-before left right column p)
cell_outside left right y bottom column row (inr (inl p)) = simp (within-past left right column p)
cell_outside left right y bottom column row (inr (inr (inl p))) = simp (within-before y bottom row p, and-false)
cell_outside left right y bottom column row (inr (inr (inr p))) = simp (within-past y bottom row p, and-false)
