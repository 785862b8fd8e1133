-- The sides and corners that are drawn lie outside the inner area, so drawing them keeps its symbols.
use Prim.Native.Nat.{ℕ, ◌+◌, ◌-◌, ◌<◌, ◌≤◌}
use mathlib.Core.Path.{◌≡◌, refl, sym, ap, ◌∙◌}
use mathlib.Core.Bool.{Bool, true, false, cond, ◌&&◌, and-eq-true_iff}
use mathlib.Core.Logic.{inl, inr}
use mathlib.Core.List.{List, [], ◌∷◌, map}
use native.Mathlib.Omega.{arith}
use borrow.Author.Tests.{leb-true, ltb-true}
use Rattle.layout.specs.declared.Rect.{Rect}
use Rattle.layout.specs.Rect.{right_of, bottom_of, within, contains}
use Rattle.cell.specs.Cell.{cell_from, with_symbol, styled}
use Rattle.cell.proofs.Fields.{styled-symbol}
use Rattle.block.specs.declared.Block.{Block}
use Rattle.block.specs.Inner.{at_left, at_top, at_right, at_bottom, taken, inner_of}
use Rattle.block.proofs.Within.{InnerInside, inside}
use Rattle.buffer.specs.Drawing.{Drawing, over, only_if, in_order, style_at}
use Rattle.buffer.proofs.Over.{over-outside}
use Rattle.buffer.proofs.Within.{cell_outside}
use Rattle.border_edges.specs.Sides.{left_side, top_side, right_side, bottom_side, bottom_right, top_right, bottom_left, top_left}
use Rattle.border_edges.specs.declared.Edge.{Edge}
use Rattle.border_edges.specs.Edges.{left_edge, top_edge, right_edge, bottom_edge, bottom_right_edge, top_right_edge, bottom_left_edge, top_left_edge}
use Rattle.render_borders.specs.Borders.{border, side_edges, corner_edges, sides, corners}

-- a drawing keeps the symbol of the cell at a column and row, whatever the cell
abbrev pub KeepsSymbol : Drawing → ℕ → ℕ → Type 0
KeepsSymbol d column row = (cell : ℕ) → (cell_from (d column row cell)).symbol ≡ (cell_from cell).symbol

-- each drawing of a list keeps the symbol
abbrev pub EachKeeps : List Drawing → ℕ → ℕ → Type 0
EachKeeps [] column row = Unit {0}
EachKeeps (d ∷ ds) column row = KeepsSymbol d column row × EachKeeps ds column row

-- then so do all of them, drawn in order
pub order_keeps : (ds : List Drawing) (column row : ℕ) → EachKeeps ds column row → KeepsSymbol (in_order ds) column row
order_keeps [] column row keeps cell = refl
order_keeps (d ∷ ds) column row keeps cell = order_keeps ds column row keeps.1 (d column row cell) ∙ keeps.0 cell

-- a drawing that leaves a cell as it is keeps its symbol
pub alone_keeps : (d : Drawing) (column row : ℕ) → ((cell : ℕ) → d column row cell ≡ cell) → KeepsSymbol d column row
alone_keeps d column row alone cell = ap (λ (c : ℕ). (cell_from c).symbol) (alone cell)

-- a style keeps the symbol of every cell
pub style_keeps : (r : Rect) (style column row : ℕ) → KeepsSymbol (over r (styled style)) column row
unfolding over
style_keeps r style column row cell = go (contains r column row)
  where
    go : (b : Bool) → (cell_from (cond b (styled style cell) cell)).symbol ≡ (cell_from cell).symbol
    go true = styled-symbol style cell
    go false = refl

-- column and row of a cell that lies in a rectangle are between its edges
pub record Between (r : Rect) (column row : ℕ) : Type 0 where
  pub left : r.x ≤ column
  pub right : column < right_of r
  pub top : r.y ≤ row
  pub bottom : row < bottom_of r

pub inside_between : (r : Rect) (column row : ℕ) → contains r column row ≡ true → Between r column row
inside_between r column row h =
    let both = (and-eq-true_iff (within r.x (right_of r) column) (within r.y (bottom_of r) row)).0 h in
    let across = (and-eq-true_iff _ _).0 both.0 in
    let down = (and-eq-true_iff _ _).0 both.1 in
    record {
      left = leb-true r.x column across.0;
      right = ltb-true column (right_of r) across.1;
      top = leb-true r.y row down.0;
      bottom = ltb-true row (bottom_of r) down.1;
    }

-- a side or corner keeps the symbol of a cell outside it, and of every cell if it is absent
edge_keeps : (styles : List ℕ) (b : Block) (edge : Edge) (column row : ℕ) → (edge.present ≡ true → contains edge.part column row ≡ false)
    → KeepsSymbol (border styles b edge) column row
unfolding border
edge_keeps styles b edge column row outside cell = go edge.present outside
  where
    go : (present : Bool) → (present ≡ true → contains edge.part column row ≡ false)
        → (cell_from (only_if present (over edge.part (λ c. styled (style_at styles b.border_style) (with_symbol edge.symbol c))) column row cell)).symbol ≡ (cell_from cell).symbol
    go true out = ap (λ (c : ℕ). (cell_from c).symbol) (over-outside edge.part _ column row cell (out refl))
    go false out = refl

-- a corner needs two borders: it is enough that the cell is outside if the first is present
corner_keeps : (styles : List ℕ) (b : Block) (edge : Edge) (one other : Bool) (column row : ℕ) → edge.present ≡ (one && other)
    → (one ≡ true → contains edge.part column row ≡ false) → KeepsSymbol (border styles b edge) column row
corner_keeps styles b edge one other column row both outside =
    edge_keeps styles b edge column row (λ on. outside ((and-eq-true_iff one other).0 (sym both ∙ on)).0)

-- a border or title that is present takes one cell
pub takes_one : (present : Bool) → present ≡ true → taken present ≡ 1
takes_one present on = rw on

module _ (b : Block) (titles : List ℕ) (met : Rect) (across : met.x + met.width ≤ 65535) (down : met.y + met.height ≤ 65535)
    (column row : ℕ) (inner : contains (inner_of b titles met) column row ≡ true) where
  -- a cell of the inner area lies between the inner area's edges, and these lie within the borders
  pub cell_between : Between (inner_of b titles met) column row
  cell_between = inside_between (inner_of b titles met) column row inner

  pub cell_inside : InnerInside b titles met
  cell_inside =
      let c = cell_between in
      inside b titles met across down (omega arith) (omega arith)

  -- if there is a left border, the cell is outside every part within the first column; the same for the other borders
  clear_left : (part : Rect) → part.x ≡ met.x → part.width ≡ 1 → b.borders.left ≡ true → contains part column row ≡ false
  clear_left part starts wide on =
      let c = cell_between in
      let i = cell_inside in
      let one = takes_one (at_left b) on in
      cell_outside _ _ _ _ column row (inr (inl (omega arith)))

  clear_top : (part : Rect) → part.y ≡ met.y → part.height ≡ 1 → b.borders.top ≡ true → contains part column row ≡ false
  clear_top part starts high on =
      let c = cell_between in
      let i = cell_inside in
      let one = takes_one (at_top b titles) (rw on) in
      cell_outside _ _ _ _ column row (inr (inr (inr (omega arith))))

  clear_right : (part : Rect) → part.x ≡ right_of met - 1 → b.borders.right ≡ true → contains part column row ≡ false
  clear_right part starts on =
      let c = cell_between in
      let i = cell_inside in
      let one = takes_one (at_right b) on in
      cell_outside _ _ _ _ column row (inl (omega arith))

  clear_bottom : (part : Rect) → part.y ≡ bottom_of met - 1 → b.borders.bottom ≡ true → contains part column row ≡ false
  clear_bottom part starts on =
      let c = cell_between in
      let i = cell_inside in
      let one = takes_one (at_bottom b titles) (rw on) in
      cell_outside _ _ _ _ column row (inr (inr (inl (omega arith))))

  -- the sides keep the symbols of the inner area
  pub sides_keep : (styles : List ℕ) → KeepsSymbol (sides styles b met) column row
  unfolding sides
  sides_keep styles =
      order_keeps (map (border styles b) (side_edges b met)) column row (
        edge_keeps styles b (left_edge b met) column row (clear_left (left_side met) refl refl),
        (
          edge_keeps styles b (top_edge b met) column row (clear_top (top_side met) refl refl),
          (
            edge_keeps styles b (right_edge b met) column row (clear_right (right_side met) refl),
            (edge_keeps styles b (bottom_edge b met) column row (clear_bottom (bottom_side met) refl), tt),
          ),
        ),
      )

  -- the corners keep them too
  pub corners_keep : (styles : List ℕ) → KeepsSymbol (corners styles b met) column row
  unfolding corners
  corners_keep styles =
      order_keeps (map (border styles b) (corner_edges b met)) column row (
        corner_keeps styles b (bottom_right_edge b met) b.borders.right b.borders.bottom column row refl (clear_right (bottom_right met) refl),
        (
          corner_keeps styles b (top_right_edge b met) b.borders.right b.borders.top column row refl (clear_right (top_right met) refl),
          (
            corner_keeps styles b (bottom_left_edge b met) b.borders.left b.borders.bottom column row refl (clear_left (bottom_left met) refl refl),
            (corner_keeps styles b (top_left_edge b met) b.borders.left b.borders.top column row refl (clear_left (top_left met) refl refl), tt),
          ),
        ),
      )
