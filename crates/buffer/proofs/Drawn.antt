-- Laws of `drawn`: its cells, composition, drawings that agree.
use Prim.Native.Nat.{ℕ, ◌+◌, ◌*◌, ◌/◌, ◌%◌, ◌<◌}
use mathlib.Core.Path.{◌≡◌, ap, sym, ◌∙◌}
use mathlib.Core.Logic.{◌⊎◌, inl, inr}
use mathlib.Core.List.{List}
use native.Mathlib.Nat.{mod-lt}
use lib.Arith.{digits_div, digits_mod}
use lib.ListN.{length, get_or}
use Rattle.buffer.specs.Drawing.{Drawing, drawn}
use Rattle.buffer.proofs.Changed.{length-changed, changed-at, changed-same, changed-none, changed_then}

pub drawn-length : (columns : ℕ) (d : Drawing) (cells : List ℕ) → length (drawn columns d cells) ≡ length cells
unfolding drawn
drawn-length columns d cells = length-changed _ cells

-- cell i, which is in column i % columns and row i / columns, after a drawing
pub drawn_cell : (columns : ℕ) (d : Drawing) (cells : List ℕ) (i : ℕ) → i < length cells
    → get_or (drawn columns d cells) i 0 ≡ d (i % columns) (i / columns) (get_or cells i 0)
unfolding drawn
drawn_cell columns d cells i h = changed-at (λ i cell. d (i % columns) (i / columns) cell) cells i h

-- the cell in a column and a row, after a drawing
pub drawn-at : (columns : ℕ) (d : Drawing) (cells : List ℕ) (column row : ℕ) → column < columns → row * columns + column < length cells
    → get_or (drawn columns d cells) (row * columns + column) 0 ≡ d column row (get_or cells (row * columns + column) 0)
unfolding drawn
drawn-at columns d cells column row h k =
    changed-at (λ i cell. d (i % columns) (i / columns) cell) cells (row * columns + column) k
    ∙ simp (digits_div row h, digits_mod row h)

-- two drawings in a row compose cell by cell
pub drawn_then : (columns : ℕ) (d e : Drawing) (cells : List ℕ)
    → drawn columns e (drawn columns d cells) ≡ drawn columns (λ column row cell. e column row (d column row cell)) cells
unfolding drawn
drawn_then columns d e cells =
    changed_then (λ i cell. d (i % columns) (i / columns) cell) (λ i cell. e (i % columns) (i / columns) cell) cells

-- the same, from the contracts of two calls
pub drawn_also : (columns : ℕ) (d e : Drawing) (cells next last : List ℕ) → next ≡ drawn columns d cells → last ≡ drawn columns e next
    → last ≡ drawn columns (λ column row cell. e column row (d column row cell)) cells
drawn_also columns d e cells next last p q = q ∙ ap (drawn columns e) p ∙ drawn_then columns d e cells

-- drawings that agree on every column of the screen
pub drawn-same : (columns : ℕ) (d e : Drawing) (cells : List ℕ) → 0 < columns
    → ((column row cell : ℕ) → column < columns → d column row cell ≡ e column row cell) → drawn columns d cells ≡ drawn columns e cells
unfolding drawn
drawn-same columns d e cells some h = changed-same _ _ cells (λ i cell _. h (i % columns) (i / columns) cell (mod-lt i some))

-- a drawing that keeps every cell
pub drawn-none : (columns : ℕ) (cells : List ℕ) → drawn columns (λ column row cell. cell) cells ≡ cells
unfolding drawn
drawn-none columns cells = changed-none cells

-- two drawings commute if for each cell at least one of them keeps it
pub drawn_commute : (columns : ℕ) (d e : Drawing) (cells : List ℕ) → 0 < columns
    → ((column row : ℕ) → ((cell : ℕ) → d column row cell ≡ cell) ⊎ ((cell : ℕ) → e column row cell ≡ cell))
    → drawn columns e (drawn columns d cells) ≡ drawn columns d (drawn columns e cells)
drawn_commute columns d e cells some apart =
    drawn_then columns d e cells
    ∙ drawn-same columns _ _ cells some (λ column row cell _. swap column row cell (apart column row))
    ∙ sym (drawn_then columns e d cells)
  where
    swap : (column row cell : ℕ) → ((cell : ℕ) → d column row cell ≡ cell) ⊎ ((cell : ℕ) → e column row cell ≡ cell)
        → e column row (d column row cell) ≡ d column row (e column row cell)
    swap column row cell (inl p) = ap (e column row) (p cell) ∙ sym (p (e column row cell))
    swap column row cell (inr q) = q (d column row cell) ∙ ap (d column row) (sym (q cell))
