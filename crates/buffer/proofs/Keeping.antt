-- Drawings that keep what a function reads of a cell: the whole cell, or the bits never touched.
use Prim.Native.Nat.{ℕ, ◌-◌}
use mathlib.Core.Path.{◌≡◌, refl, ap, ◌∙◌}
use mathlib.Core.Bool.{Bool, true, false, cond}
use mathlib.Core.List.{List, [], ◌∷◌}
use Rattle.cell.specs.Cell.{Cell, cell_from, with_symbol, styled}
use Rattle.cell.proofs.Fields.{styled-untouched, symbol_fields}
use Rattle.layout.specs.declared.Rect.{Rect}
use Rattle.layout.specs.Rect.{contains}
use Rattle.buffer.specs.Drawing.{Drawing, over, inside, sparing, only_if, in_order}

-- a change of a cell keeps what `read` reads of it
abbrev pub CellKeeps : (ℕ → ℕ) → (ℕ → ℕ) → Type 0
CellKeeps read f = (cell : ℕ) → read (f cell) ≡ read cell

-- a drawing keeps what `read` reads of the cell at a column and row, whatever the cell
abbrev pub Keeps : (ℕ → ℕ) → Drawing → ℕ → ℕ → Type 0
Keeps read d column row = (cell : ℕ) → read (d column row cell) ≡ read cell

-- each drawing of a list keeps it
abbrev pub EachKeeps : (ℕ → ℕ) → List Drawing → ℕ → ℕ → Type 0
EachKeeps read [] column row = Unit {0}
EachKeeps read (d ∷ ds) column row = Keeps read d column row × EachKeeps read ds column row

-- styles and symbols keep it
pub record InksKeep (read : ℕ → ℕ) : Type 0 where
  pub styles : (style : ℕ) → CellKeeps read (styled style)
  pub symbols : (symbol : ℕ) → CellKeeps read (with_symbol symbol)

-- the 18 bits of a cell that are never touched
abbrev pub untouched_bits : ℕ → ℕ
untouched_bits cell = (cell_from cell).untouched

pub inks_keep_bits : InksKeep untouched_bits
inks_keep_bits =
    record {
      styles = styled-untouched;
      symbols = λ symbol cell. ap (λ (c : Cell). c.untouched) (symbol_fields symbol cell);
    }

-- the whole cell
abbrev pub whole_cell : ℕ → ℕ
whole_cell cell = cell

module _ (read : ℕ → ℕ) (column row : ℕ) where
  pub order_keeps : (ds : List Drawing) → EachKeeps read ds column row → Keeps read (in_order ds) column row
  order_keeps [] keeps cell = refl
  order_keeps (d ∷ ds) keeps cell = order_keeps ds keeps.1 (d column row cell) ∙ keeps.0 cell

  pub only_keeps : (test : Bool) (d : Drawing) → (test ≡ true → Keeps read d column row) → Keeps read (only_if test d) column row
  only_keeps true d h cell = h refl cell
  only_keeps false d h cell = refl

  pub over_keeps : (r : Rect) (f : ℕ → ℕ) → (contains r column row ≡ true → CellKeeps read f) → Keeps read (over r f) column row
  unfolding over
  over_keeps r f h cell = go (contains r column row) h
    where
      go : (b : Bool) → (b ≡ true → CellKeeps read f) → read (cond b (f cell) cell) ≡ read cell
      go true k = k refl cell
      go false k = refl

  pub inside_keeps : (r : Rect) (d : Drawing) → (contains r column row ≡ true → Keeps read d (column - r.x) (row - r.y)) → Keeps read (inside r d) column row
  unfolding inside
  inside_keeps r d h cell = go (contains r column row) h
    where
      go : (b : Bool) → (b ≡ true → Keeps read d (column - r.x) (row - r.y)) → read (cond b (d (column - r.x) (row - r.y) cell) cell) ≡ read cell
      go true k = k refl cell
      go false k = refl

  pub sparing_keeps : (r : Rect) (d : Drawing) → (contains r column row ≡ false → Keeps read d column row) → Keeps read (sparing r d) column row
  unfolding sparing
  sparing_keeps r d h cell = go (contains r column row) h
    where
      go : (b : Bool) → (b ≡ false → Keeps read d column row) → read (cond b cell (d column row cell)) ≡ read cell
      go true k = refl
      go false k = k refl cell
