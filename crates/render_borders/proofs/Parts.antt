-- If a non-empty rectangle lies on the screen, so do its sides and corners.
use Prim.Native.Nat.{ℕ, ◌≤◌}
use mathlib.Core.Path.{◌≡◌}
use mathlib.Core.Bool.{false}
use mathlib.Core.List.{List}
use native.Mathlib.Omega.{arith}
use Rattle.layout.specs.declared.Rect.{Rect}
use Rattle.layout.specs.Rect.{right_of, bottom_of, is_empty}
use Rattle.block.specs.declared.Block.{Block}
use Rattle.buffer.specs.declared.Screen.{Screen}
use Rattle.buffer.specs.PartsExtra.{OnScreen}
use Rattle.border_edges.specs.declared.Edge.{Edge}
use Rattle.border_edges.specs.Sides.{left_side, top_side, right_side, bottom_side, bottom_right, top_right, bottom_left, top_left}
use Rattle.block.specs.Causes.{border_symbols, SymbolsFit}
use Rattle.render_borders.specs.Borders.{side_edges, corner_edges}
use Rattle.render_borders.specs.BordersExtra.{EdgesFit}
use Rattle.render_borders.proofs.Symbols.{border-fits}
use Rattle.layout.proofs.NotEmpty.{not-empty}

-- a rectangle that ends no further than one on the screen lies on it too; drawing keeps the count of cells
pub part-on_screen : (s : Screen) (m n : ℕ) (r part : Rect) → OnScreen s m r → n ≡ m → right_of part ≤ right_of r → bottom_of part ≤ bottom_of r → OnScreen s n part
part-on_screen s m n r part on same across down =
    record { columns = on.columns; size = omega (arith, on.size); right = omega (arith, on.right); bottom = omega (arith, on.bottom) }

-- the sides and corners of a non-empty rectangle on the screen, in a block whose symbols fit; m is the count of cells at the start of
-- the function, n the count now, which is equal
module _ (s : Screen) (m n : ℕ) (r : Rect) (on : OnScreen s m r) (some : is_empty r ≡ false) (same : n ≡ m) (b : Block) (fit : SymbolsFit b) where
  pub sides-fit : (edges : List Edge) → edges ≡ side_edges b r → EdgesFit s n edges
  unfolding border_symbols
  sides-fit edges e = let sizes = not-empty r some in rw e (
    (border-fits b fit 4 (omega arith), part-on_screen s m n r (left_side r) on same (omega arith) (omega arith)),
    (
      (border-fits b fit 6 (omega arith), part-on_screen s m n r (top_side r) on same (omega arith) (omega arith)),
      (
        (border-fits b fit 5 (omega arith), part-on_screen s m n r (right_side r) on same (omega arith) (omega arith)),
        (
          (border-fits b fit 7 (omega arith), part-on_screen s m n r (bottom_side r) on same (omega arith) (omega arith)),
          tt,
        ),
      ),
    ),
  )

  pub corners-fit : (edges : List Edge) → edges ≡ corner_edges b r → EdgesFit s n edges
  unfolding border_symbols
  corners-fit edges e = let sizes = not-empty r some in rw e (
    (border-fits b fit 3 (omega arith), part-on_screen s m n r (bottom_right r) on same (omega arith) (omega arith)),
    (
      (border-fits b fit 1 (omega arith), part-on_screen s m n r (top_right r) on same (omega arith) (omega arith)),
      (
        (border-fits b fit 2 (omega arith), part-on_screen s m n r (bottom_left r) on same (omega arith) (omega arith)),
        (
          (border-fits b fit 0 (omega arith), part-on_screen s m n r (top_left r) on same (omega arith) (omega arith)),
          tt,
        ),
      ),
    ),
  )
