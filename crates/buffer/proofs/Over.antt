-- Laws of `over`, `inside` and `sparing`: drawings on the cells of a rectangle, and drawings that keep them.
use Prim.Native.Nat.{ℕ, ◌+◌, ◌-◌, ◌*◌, ◌<◌, ◌≤◌}
use mathlib.Core.Path.{◌≡◌, refl}
use mathlib.Core.Bool.{Bool, true, false, and-false}
use mathlib.Core.Logic.{◌⊎◌, inl, inr, dite}
use mathlib.Core.List.{List}
use native.Mathlib.Decide.{dec_lt, ℕ_discrete}
use native.Mathlib.Omega.{arith}
use borrow.Author.Tests.{eq-eqb, ne_eqb, eqb-true}
use mir.Syntax.{w16}
use mir.Val.{Fits}
use lib.Dec.{eqb}
use lib.ListN.{length}
use Rattle.num.specs.Held.{held}
use Rattle.layout.specs.declared.Rect.{Rect}
use Rattle.layout.specs.Rect.{right_of, bottom_of, is_empty, within, contains}
use Rattle.buffer.specs.declared.Screen.{Screen}
use Rattle.buffer.specs.Drawing.{Drawing, drawn, over, inside, sparing}
use Rattle.buffer.specs.PartsExtra.{in_row, in_rows, OnScreen}
use Rattle.buffer.proofs.Within.{within-inside, within-before, within-past}
use Rattle.buffer.proofs.Drawn.{drawn_commute}
use Rattle.buffer.proofs.Rows.{DrawingRows, rows_start, rows-done, row_fits}

-- the same change on all rows of a rectangle is a change of the rectangle
pub rows-over : (r : Rect) (f : ℕ → ℕ) → in_rows r.x (right_of r) r.y (bottom_of r) (λ j i cell. f cell) ≡ over r f
unfolding in_rows over
rows-over r f = refl

-- the only row of a rectangle of height 1
one_row : (y row : ℕ) → within y (y + 1) row ≡ eqb row y
one_row y row =
    dite (ℕ_discrete row y)
    (λ e. rw (within-inside y (y + 1) row (omega arith) (omega arith), eq-eqb row y e))
    (λ n.
    dite (dec_lt row y)
    (λ p. rw (within-before y (y + 1) row p, ne_eqb row y n))
    (λ q. rw (within-past y (y + 1) row (omega (arith, n, q)), ne_eqb row y n)))

pub row_inside : (r : Rect) (f : ℕ → ℕ → ℕ) (column row cell : ℕ) → r.height ≡ 1 → r.y < 65535
    → in_row r.x (right_of r) r.y f column row cell ≡ inside r (λ column row. f column) column row cell
unfolding in_row inside
row_inside r f column row cell high low =
    let b : bottom_of r ≡ r.y + 1 = omega arith in
    rw (b, one_row r.y row)

-- a loop over the rows of a rectangle within the screen; right and bottom are read before the loop
module _ (s : Screen) (r : Rect) (right bottom : ℕ) (right_is : right ≡ right_of r) (bottom-is : bottom ≡ bottom_of r) where
  -- the invariant holds at the first row
  pub area-starts : (f : ℕ → ℕ → ℕ → ℕ) (cells : List ℕ) → OnScreen s (length cells) r → Fits w16 r.y
      → DrawingRows s.columns r.x right r.y bottom f cells cells r.y
  area-starts f cells on fits = rows_start s.columns r.x right r.y bottom f cells on.columns (omega (arith, fits.fits))

  pub area-left : Fits w16 r.x → r.x ≤ right
  area-left fits = omega (arith, fits.fits)

  pub area-right : (n : ℕ) → OnScreen s n r → right ≤ s.columns
  area-right n on = omega (arith, on.right)

  -- each row of the rectangle is within the cells
  pub area-row : (f : ℕ → ℕ → ℕ → ℕ) (old cells : List ℕ) (n : ℕ) → OnScreen s (length old) r
      → DrawingRows s.columns r.x right r.y bottom f old cells n → n < bottom → n * s.columns + right ≤ length cells
  area-row f old cells n on d h =
      omega (arith, d.same_length, row_fits s.columns right n s.rows (length old) (area-right (length old) on) (omega (arith, on.bottom)) on.size)

  -- after the last row the whole rectangle is drawn
  pub area-done : (f : ℕ → ℕ) (old cells : List ℕ) (n : ℕ) → DrawingRows s.columns r.x right r.y bottom (λ j i cell. f cell) old cells n → bottom ≤ n
      → cells ≡ drawn s.columns (over r f) old
  area-done f old cells n d h =
      rw (right_is, bottom-is, rows-over r f) at (rows-done s.columns r.x right r.y bottom (λ j i cell. f cell) old cells n d h)

pub ruleset drawing-area = (area-starts, area-left, area-right, area-row, area-done)

module _ (r : Rect) (d : Drawing) (column row cell : ℕ) where
  -- a cell inside is drawn, with its column and row relative to the rectangle
  pub inside-there : contains r column row ≡ true → inside r d column row cell ≡ d (column - r.x) (row - r.y) cell
  unfolding inside
  inside-there h = rw h

  -- a cell outside is kept
  pub inside-outside : contains r column row ≡ false → inside r d column row cell ≡ cell
  unfolding inside
  inside-outside h = rw h

module _ (r : Rect) (f : ℕ → ℕ) (column row cell : ℕ) where
  -- a cell inside is changed
  pub over-inside : contains r column row ≡ true → over r f column row cell ≡ f cell
  unfolding over
  over-inside h = rw h

  -- a cell outside is kept
  pub over-outside : contains r column row ≡ false → over r f column row cell ≡ cell
  unfolding over
  over-outside h = rw h

module _ (r : Rect) (d : Drawing) (column row cell : ℕ) where
  -- a cell inside is kept
  pub sparing-inside : contains r column row ≡ true → sparing r d column row cell ≡ cell
  unfolding sparing
  sparing-inside h = rw h

  -- a cell outside is drawn
  pub sparing-outside : contains r column row ≡ false → sparing r d column row cell ≡ d column row cell
  unfolding sparing
  sparing-outside h = rw h

-- a drawing that keeps every cell outside a rectangle commutes with one that keeps every cell inside
pub sparing_commute : (columns : ℕ) (r : Rect) (d e : Drawing) (cells : List ℕ) → 0 < columns
    → ((column row cell : ℕ) → contains r column row ≡ false → e column row cell ≡ cell)
    → drawn columns (sparing r d) (drawn columns e cells) ≡ drawn columns e (drawn columns (sparing r d) cells)
sparing_commute columns r d e cells some alone =
    drawn_commute columns e (sparing r d) cells some (λ column row. apart column row (contains r column row) refl)
  where
    apart : (column row : ℕ) (b : Bool) → contains r column row ≡ b
        → ((cell : ℕ) → e column row cell ≡ cell) ⊎ ((cell : ℕ) → sparing r d column row cell ≡ cell)
    apart column row true h = inr (λ cell. sparing-inside r d column row cell h)
    apart column row false h = inl (λ cell. alone column row cell h)

-- a range of size 0 contains no number
within_none : (first size n : ℕ) → size ≡ 0 → within first (held (first + size)) n ≡ false
within_none first size n e = dite (dec_lt n first) (within-before first _ n) (λ p. within-past first _ n (omega (arith, p)))

-- an empty rectangle has no cells
contains-none : (r : Rect) (column row : ℕ) → is_empty r ≡ true → contains r column row ≡ false
contains-none r column row h = go (eqb r.width 0) refl
  where
    go : (b : Bool) → eqb r.width 0 ≡ b → contains r column row ≡ false
    go true e = rw (within_none r.x r.width column (eqb-true r.width 0 e))
    go false e = rw (within_none r.y r.height row (eqb-true r.height 0 (rw e at h)), and-false)

-- drawing over an empty rectangle keeps every cell
pub over-empty : (r : Rect) (f : ℕ → ℕ) (column row cell : ℕ) → is_empty r ≡ true → over r f column row cell ≡ cell
over-empty r f column row cell h = over-outside r f column row cell (contains-none r column row h)
