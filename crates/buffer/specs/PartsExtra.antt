-- Not in the papers: changes of a borrowed slice of a screen's cells, as drawings on the whole screen, and the preconditions of
-- functions that draw.
use Rattle.std.specs.Prelude.{ℕ, ◌-◌, ◌*◌, ◌<◌, ◌≤◌, ◌^◌, cond, ◌&&◌, eqb}
use Rattle.layout.specs.declared.Rect.{Rect}
use Rattle.layout.specs.Rect.{right_of, bottom_of, within}
use Rattle.buffer.specs.declared.Screen.{Screen}
use Rattle.buffer.specs.Drawing.{Drawing}

-- a change of the elements from index a up to e, given by their offset from a
abbrev pub windowed : ℕ → ℕ → (ℕ → ℕ → ℕ) → ℕ → ℕ → ℕ
windowed a e f i x = cond (within a e i) (f (i - a) x) x

-- a change of the cells of row y from column left up to right, given by their offset from left
unfoldable pub in_row : ℕ → ℕ → ℕ → (ℕ → ℕ → ℕ) → Drawing
in_row left right y f column row cell = cond (within left right column && eqb row y) (f (column - left) cell) cell

-- a change of the cells in rows y up to bottom, columns left up to right; `f j i` changes the cell at row y + j, column left + i
unfoldable pub in_rows : ℕ → ℕ → ℕ → ℕ → (ℕ → ℕ → ℕ → ℕ) → Drawing
in_rows left right y bottom f column row cell =
    cond (within left right column && within y bottom row) (f (row - y) (column - left) cell) cell

-- a rectangle that is within a screen, given the number of its cells
pub record OnScreen (s : Screen) (cells : ℕ) (r : Rect) : Type 0 where
  pub columns : 0 < s.columns
  pub size : s.rows * s.columns ≤ cells
  pub right : right_of r ≤ s.columns
  pub bottom : bottom_of r ≤ s.rows

-- a screen with cells, its columns and rows few enough that no sum saturates: cause 1 refuses more than 512 and 256
pub record HasCells (s : Screen) (cells : ℕ) : Type 0 where
  pub columns : 0 < s.columns
  pub size : s.rows * s.columns ≤ cells
  pub few_columns : s.columns < 2 ^ 15
  pub few_rows : s.rows < 2 ^ 15

-- an area within a screen that is small enough that no sum saturates
pub record AreaOnScreen (s : Screen) (cells : ℕ) (r : Rect) : Type 0 where
  pub on_screen : OnScreen s cells r
  pub few_columns : s.columns < 2 ^ 15
  pub few_rows : s.rows < 2 ^ 15
