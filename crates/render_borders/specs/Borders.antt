-- Document 01, 'Inner area and frame (block.rs, padding.rs)': the drawing of a block's sides and corners.
use Rattle.std.specs.Prelude.{ℕ, List, [], ◌∷◌, map}
use Rattle.cell.specs.Cell.{with_symbol, styled}
use Rattle.layout.specs.declared.Rect.{Rect}
use Rattle.block.specs.declared.Block.{Block}
use Rattle.buffer.specs.Drawing.{Drawing, over, only_if, in_order, style_at}
use Rattle.border_edges.specs.declared.Edge.{Edge}
use Rattle.border_edges.specs.Edges.{left_edge, top_edge, right_edge, bottom_edge, bottom_right_edge, top_right_edge, bottom_left_edge, top_left_edge}

-- "A border cell gets its symbol, then the border style.", if the side or corner is present
unfoldable pub border : List ℕ → Block → Edge → Drawing
border styles b edge =
    only_if edge.present (over edge.part (λ cell. styled (style_at styles b.border_style) (with_symbol edge.symbol cell)))

-- "sides left, top, right, bottom"
abbrev pub side_edges : Block → Rect → List Edge
side_edges b r = left_edge b r ∷ top_edge b r ∷ right_edge b r ∷ bottom_edge b r ∷ []

-- "corners (bottom right, top right, bottom left, top left, …)"
abbrev pub corner_edges : Block → Rect → List Edge
corner_edges b r = bottom_right_edge b r ∷ top_right_edge b r ∷ bottom_left_edge b r ∷ top_left_edge b r ∷ []

-- the drawings of a non-empty rectangle's sides and of its corners, each in its order
unfoldable pub sides : List ℕ → Block → Rect → Drawing
sides styles b r = in_order (map (border styles b) (side_edges b r))

unfoldable pub corners : List ℕ → Block → Rect → Drawing
corners styles b r = in_order (map (border styles b) (corner_edges b r))
