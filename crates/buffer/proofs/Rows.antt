-- Laws of `in_row` and `in_rows`: changes of a borrowed part of a row, and rows drawn one after another.
use Prim.Native.Nat.{ℕ, ◌+◌, ◌-◌, ◌*◌, ◌/◌, ◌%◌, ◌<◌, ◌≤◌}
use mathlib.Core.Path.{◌≡◌, refl, ap, sym, ◌∙◌}
use mathlib.Core.Bool.{and-true, and-false}
use mathlib.Core.Logic.{◌⊎◌, inl, inr, dite}
use mathlib.Core.List.{List, ◌++◌}
use native.Mathlib.Nat.{div-add-mod', mod-lt, mul-le-mul_right}
use native.Mathlib.Numerals.{add-one-le}
use native.Mathlib.Decide.{dec_lt, ℕ_discrete}
use native.Mathlib.Omega.{arith}
use borrow.Author.Tests.{lt-ltb, eq-eqb, ne_eqb}
use lib.ListN.{length, take, drop}
use Rattle.buffer.specs.Drawing.{changed, drawn}
use Rattle.buffer.specs.PartsExtra.{windowed, in_row, in_rows}
use Rattle.buffer.proofs.Within.{within-inside, within-before, within-past, within_shift, cell_inside, cell_outside}
use Rattle.buffer.proofs.Changed.{changed-same, part-borrowed}
use Rattle.buffer.proofs.Drawn.{drawn-length, drawn_then, drawn-same, drawn-none}

-- The cells of row y from column left up to right, on a screen of that many columns.
record RowPart : Type 0 where
  columns : ℕ
  left : ℕ
  right : ℕ
  y : ℕ
  in_the_row : right ≤ columns

-- the indices of its first cell and of the cell after its last
abbrev first_cell : RowPart → ℕ
first_cell p = p.y * p.columns + p.left

abbrev end_cell : RowPart → ℕ
end_cell p = p.y * p.columns + p.right

-- a change by cell index is a change by column and row
module _ (p : RowPart) (f : ℕ → ℕ → ℕ) (column cell : ℕ) (on : column < p.columns) where
  row_before : (row : ℕ) → row < p.y
      → windowed (first_cell p) (end_cell p) f (row * p.columns + column) cell ≡ in_row p.left p.right p.y f column row cell
  unfolding in_row
  row_before row h =
      let k : row * p.columns + column < first_cell p = omega (arith, mul-le-mul_right p.columns (add-one-le h)) in
      simp (within-before _ (end_cell p) _ k, ne_eqb row p.y (λ e. omega arith), and-false)

  row-past : (row : ℕ) → p.y < row
      → windowed (first_cell p) (end_cell p) f (row * p.columns + column) cell ≡ in_row p.left p.right p.y f column row cell
  unfolding in_row
  row-past row h =
      let k : end_cell p ≤ row * p.columns + column = omega (arith, p.in_the_row, mul-le-mul_right p.columns (add-one-le h)) in
      simp (within-past (first_cell p) _ _ k, ne_eqb row p.y (λ e. omega arith), and-false)

  row_same : windowed (first_cell p) (end_cell p) f (p.y * p.columns + column) cell ≡ in_row p.left p.right p.y f column p.y cell
  unfolding in_row
  row_same =
      let e : (p.y * p.columns + column) - first_cell p ≡ column - p.left = omega arith in
      simp (within_shift (p.y * p.columns), eq-eqb p.y p.y refl, e, and-true)

  row_any : (row : ℕ) → windowed (first_cell p) (end_cell p) f (row * p.columns + column) cell ≡ in_row p.left p.right p.y f column row cell
  row_any row =
      dite (dec_lt row p.y) (row_before row)
      (λ n. dite (dec_lt p.y row) (row-past row) (λ m. let e : row ≡ p.y = omega (arith, n, m) in rw e row_same))

row_numbers : (p : RowPart) (f : ℕ → ℕ → ℕ) (i cell : ℕ) → 0 < p.columns
    → windowed (first_cell p) (end_cell p) f i cell ≡ in_row p.left p.right p.y f (i % p.columns) (i / p.columns) cell
row_numbers p f i cell some =
    ap (λ (j : ℕ). windowed (first_cell p) (end_cell p) f j cell) (sym (div-add-mod' i p.columns))
    ∙ row_any p f (i % p.columns) cell (mod-lt i some) (i / p.columns)

-- changing the cells of row y borrowed from column left up to right is a drawing in that row
pub row-borrowed : (columns left right y : ℕ) (f : ℕ → ℕ → ℕ) (cells part : List ℕ) → 0 < columns → left ≤ right → right ≤ columns → y * columns + right ≤ length cells
    → part ≡ changed f (take ((y * columns + right) - (y * columns + left)) (drop (y * columns + left) cells))
    → take (y * columns + left) cells ++ (part ++ drop ((y * columns + right) - (y * columns + left)) (drop (y * columns + left) cells))
    ≡ drawn columns (in_row left right y f) cells
unfolding drawn
row-borrowed columns left right y f cells part some p q k e =
    let row : RowPart = record { columns = columns; left = left; right = right; y = y; in_the_row = q } in
    part-borrowed f (y * columns + left) (y * columns + right) cells part (omega arith) k e
    ∙ changed-same _ _ cells (λ i cell _. row_numbers row f i cell some)

-- as above, with its two ends given by equal numbers
pub row-borrowed-at : (columns left right y from to : ℕ) (f : ℕ → ℕ → ℕ) (cells part : List ℕ) → 0 < columns → left ≤ right → right ≤ columns
    → y * columns + right ≤ length cells → from ≡ y * columns + left → to ≡ y * columns + right
    → part ≡ changed f (take (to - from) (drop from cells))
    → take from cells ++ (part ++ drop (to - from) (drop from cells)) ≡ drawn columns (in_row left right y f) cells
row-borrowed-at columns left right y from to f cells part some p q k a b e = rw (a, b) (row-borrowed columns left right y f cells part some p q k (rw (a, b) at e))

-- a row above the bottom is within the n cells
pub row_fits : (columns right y bottom n : ℕ) → right ≤ columns → y < bottom → bottom * columns ≤ n → y * columns + right ≤ n
row_fits columns right y bottom n p q h = omega (arith, mul-le-mul_right columns (add-one-le q))

module _ (left right y bottom : ℕ) (f : ℕ → ℕ → ℕ → ℕ) (column row cell : ℕ) where
  pub rows_inside : left ≤ column → column < right → y ≤ row → row < bottom → in_rows left right y bottom f column row cell ≡ f (row - y) (column - left) cell
  unfolding in_rows
  rows_inside p q s t = simp (cell_inside left right y bottom column row p q s t)

  -- other cells are kept
  pub rows-outside : (column < left) ⊎ (right ≤ column) ⊎ (row < y) ⊎ (bottom ≤ row) → in_rows left right y bottom f column row cell ≡ cell
  unfolding in_rows
  rows-outside h = simp (cell_outside left right y bottom column row h)

module _ (left right y : ℕ) (f : ℕ → ℕ → ℕ) (column cell : ℕ) where
  pub row_inside : left ≤ column → column < right → in_row left right y f column y cell ≡ f (column - left) cell
  unfolding in_row
  row_inside p q = simp (within-inside left right column p q, eq-eqb y y refl)

  -- a cell in another column is kept
  pub row-outside : (column < left) ⊎ (right ≤ column) → (row : ℕ) → in_row left right y f column row cell ≡ cell
  unfolding in_row
  row-outside (inl p) row = simp (within-before left right column p)
  row-outside (inr p) row = simp (within-past left right column p)

  -- a cell in another row is kept
  pub other_row : (row : ℕ) → (row ≡ y → ⊥) → in_row left right y f column row cell ≡ cell
  unfolding in_row
  other_row row h = simp (ne_eqb row y h, and-false)

module _ (left right y n : ℕ) (f : ℕ → ℕ → ℕ → ℕ) (column cell : ℕ) (from : y ≤ n) where
  more_same : in_row left right n (f (n - y)) column n (in_rows left right y n f column n cell) ≡ in_rows left right y (n + 1) f column n cell
  unfolding in_row in_rows
  more_same =
      simp (eq-eqb n n refl, within-past y n n (omega arith), within-inside y (n + 1) n from (omega arith), and-true, and-false)

  more_other : (row : ℕ) → (row ≡ n → ⊥)
      → in_row left right n (f (n - y)) column row (in_rows left right y n f column row cell) ≡ in_rows left right y (n + 1) f column row cell
  unfolding in_rows
  more_other row h =
      other_row left right n (f (n - y)) column _ row h
      ∙ dite (dec_lt row n)
      (λ p. simp (lt-ltb row n p, lt-ltb row (n + 1) (omega (arith, p))))
      (λ q. simp (within-past y n row (omega (arith, q)), within-past y (n + 1) row (omega (arith, q, h)), and-false))

  more_any : (row : ℕ) → in_row left right n (f (n - y)) column row (in_rows left right y n f column row cell) ≡ in_rows left right y (n + 1) f column row cell
  more_any row = dite (ℕ_discrete row n) (λ e. rw e more_same) (more_other row)

-- drawing the rows before row n and then row n draws the rows before row n + 1
pub rows_more : (columns left right y n : ℕ) (f : ℕ → ℕ → ℕ → ℕ) (cells : List ℕ) → 0 < columns → y ≤ n
    → drawn columns (in_row left right n (f (n - y))) (drawn columns (in_rows left right y n f) cells) ≡ drawn columns (in_rows left right y (n + 1) f) cells
rows_more columns left right y n f cells some from =
    drawn_then columns _ _ cells
    ∙ drawn-same columns _ _ cells some (λ column row cell _. more_any left right y n f column cell from row)

pub rows_none : (columns left right y : ℕ) (f : ℕ → ℕ → ℕ → ℕ) (cells : List ℕ) → 0 < columns → drawn columns (in_rows left right y y f) cells ≡ cells
rows_none columns left right y f cells some =
    drawn-same columns _ (λ column row cell. cell) cells some (λ column row cell _. none column row cell) ∙ drawn-none columns cells
  where
    none : (column row cell : ℕ) → in_rows left right y y f column row cell ≡ cell
    none column row cell =
        dite (dec_lt row y)
        (λ p. rows-outside left right y y f column row cell (inr (inr (inl p))))
        (λ q. rows-outside left right y y f column row cell (inr (inr (inr (omega (arith, q))))))

-- Before each turn: the rows from y up to n are drawn, the others are as they were.
pub record DrawingRows (columns left right y bottom : ℕ) (f : ℕ → ℕ → ℕ → ℕ) (old cells : List ℕ) (n : ℕ) : Type 0 where
  pub from : y ≤ n
  pub to : n ≤ bottom
  pub same_length : length cells ≡ length old
  pub so_far : cells ≡ drawn columns (in_rows left right y n f) old

module _ (columns left right y bottom : ℕ) (f : ℕ → ℕ → ℕ → ℕ) where
  pub rows_start : (cells : List ℕ) → 0 < columns → y ≤ bottom → DrawingRows columns left right y bottom f cells cells y
  rows_start cells some h =
      record {
        from = omega arith;
        to = h;
        same_length = refl;
        so_far = sym (rows_none columns left right y f cells some);
      }

  module _ (old cells : List ℕ) (n : ℕ) (r : DrawingRows columns left right y bottom f old cells n) where
    -- a turn draws row n
    pub rows-turn : (next : List ℕ) → 0 < columns → n < bottom → next ≡ drawn columns (in_row left right n (f (n - y))) cells
        → DrawingRows columns left right y bottom f old next (n + 1)
    rows-turn next some h e =
        record {
          from = omega (arith, r.from);
          to = omega arith;
          same_length = ap length e ∙ drawn-length columns _ cells ∙ r.same_length;
          so_far = e ∙ ap (drawn columns _) r.so_far ∙ rows_more columns left right y n f old some r.from;
        }

    -- the same turn, for a loop that counts rows from 0
    pub rows-turn-at : (next : List ℕ) (j : ℕ) → n ≡ y + j → 0 < columns → n < bottom → next ≡ drawn columns (in_row left right n (f j)) cells
        → DrawingRows columns left right y bottom f old next (y + (j + 1))
    rows-turn-at next j e some h k =
        let there : n - y ≡ j = omega arith in
        let then : n + 1 ≡ y + (j + 1) = omega arith in
        rw then at (rows-turn next some h (rw there k))

    -- at the bottom all rows are drawn
    pub rows-done : bottom ≤ n → cells ≡ drawn columns (in_rows left right y bottom f) old
    rows-done h =
        let e : n ≡ bottom = omega (arith, r.to) in
        rw e at r.so_far

pub ruleset drawing-rows = (rows_start, rows-turn, rows-done)
