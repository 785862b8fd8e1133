-- Words that the rules use: a drawing gives the new value of each cell of a screen.
use Rattle.std.specs.Prelude.{ℕ, suc, ◌-◌, ◌/◌, ◌%◌, Bool, cond, List, [], ◌∷◌, get_or}
use Rattle.layout.specs.declared.Rect.{Rect}
use Rattle.layout.specs.Rect.{contains}
use Rattle.buffer.specs.declared.Screen.{Screen}

-- from column, row and old cell to the new cell
abbrev pub Drawing : Type 0
Drawing = ℕ → ℕ → ℕ → ℕ

-- each element of a list changed by a function of its index and value; indices start at the number given
abbrev pub changed_from : ℕ → (ℕ → ℕ → ℕ) → List ℕ → List ℕ
changed_from n f [] = []
changed_from n f (x ∷ xs) = f n x ∷ changed_from (suc n) f xs

abbrev pub changed : (ℕ → ℕ → ℕ) → List ℕ → List ℕ
changed f xs = changed_from 0 f xs

-- the cells of a screen after a drawing; cells are stored row by row, so that cell i is in column i % columns and row i / columns
unfoldable pub drawn : ℕ → Drawing → List ℕ → List ℕ
drawn columns d cells = changed (λ i cell. d (i % columns) (i / columns) cell) cells

-- the same change for each cell of a rectangle, none for other cells
unfoldable pub over : Rect → (ℕ → ℕ) → Drawing
over r f column row cell = cond (contains r column row) (f cell) cell

-- a drawing in a rectangle, with columns and rows counted from its top left corner; other cells are kept
unfoldable pub inside : Rect → Drawing → Drawing
inside r d column row cell = cond (contains r column row) (d (column - r.x) (row - r.y) cell) cell

-- a drawing that keeps the cells of a rectangle
unfoldable pub sparing : Rect → Drawing → Drawing
sparing r d column row cell = cond (contains r column row) cell (d column row cell)

-- a drawing if a test holds, else none
abbrev pub only_if : Bool → Drawing → Drawing
only_if test d column row cell = cond test (d column row cell) cell

-- drawings one after another
abbrev pub in_order : List Drawing → Drawing
in_order [] column row cell = cell
in_order (d ∷ ds) column row cell = in_order ds column row (d column row cell)

-- the rectangle of all cells of a screen
abbrev pub area_of : Screen → Rect
area_of s = record { x = 0; y = 0; width = s.columns; height = s.rows }

-- the style with a number: its index in the caller's list of styles
abbrev pub style_at : List ℕ → ℕ → ℕ
style_at styles number = get_or styles number 0
