-- Document 01, 'Inner area and frame (block.rs, padding.rs)': the sides and corners of a block: presence, cells and symbol.
use Rattle.std.specs.Prelude.{◌&&◌}
use Rattle.layout.specs.declared.Rect.{Rect}
use Rattle.block.specs.declared.Block.{Block}
use Rattle.border_edges.specs.declared.Edge.{Edge}
use Rattle.border_edges.specs.Sides.{left_side, top_side, right_side, bottom_side, bottom_right, top_right, bottom_left, top_left}

-- a side is present if its border is
abbrev pub left_edge : Block → Rect → Edge
left_edge b r = record { present = b.borders.left; part = left_side r; symbol = b.border_set.vertical_left }

abbrev pub top_edge : Block → Rect → Edge
top_edge b r = record { present = b.borders.top; part = top_side r; symbol = b.border_set.horizontal_top }

abbrev pub right_edge : Block → Rect → Edge
right_edge b r = record { present = b.borders.right; part = right_side r; symbol = b.border_set.vertical_right }

abbrev pub bottom_edge : Block → Rect → Edge
bottom_edge b r = record { present = b.borders.bottom; part = bottom_side r; symbol = b.border_set.horizontal_bottom }

-- "corners (…, each where both borders stand)"
abbrev pub bottom_right_edge : Block → Rect → Edge
bottom_right_edge b r = record { present = b.borders.right && b.borders.bottom; part = bottom_right r; symbol = b.border_set.bottom_right }

abbrev pub top_right_edge : Block → Rect → Edge
top_right_edge b r = record { present = b.borders.right && b.borders.top; part = top_right r; symbol = b.border_set.top_right }

abbrev pub bottom_left_edge : Block → Rect → Edge
bottom_left_edge b r = record { present = b.borders.left && b.borders.bottom; part = bottom_left r; symbol = b.border_set.bottom_left }

abbrev pub top_left_edge : Block → Rect → Edge
top_left_edge b r = record { present = b.borders.left && b.borders.top; part = top_left r; symbol = b.border_set.top_left }
