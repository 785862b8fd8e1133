-- Document 01, 'Inner area and frame (block.rs, padding.rs)': the cells of a block's sides and corners.
use Rattle.std.specs.Prelude.{◌-◌}
use Rattle.layout.specs.declared.Rect.{Rect}
use Rattle.layout.specs.Rect.{right_of, bottom_of}

-- sides of a non-empty rectangle: its first column, first row, last column, last row
abbrev pub left_side : Rect → Rect
left_side r = record { x = r.x; y = r.y; width = 1; height = r.height }

abbrev pub top_side : Rect → Rect
top_side r = record { x = r.x; y = r.y; width = r.width; height = 1 }

abbrev pub right_side : Rect → Rect
right_side r = record { x = right_of r - 1; y = r.y; width = 1; height = r.height }

abbrev pub bottom_side : Rect → Rect
bottom_side r = record { x = r.x; y = bottom_of r - 1; width = r.width; height = 1 }

-- corners of a non-empty rectangle
abbrev pub bottom_right : Rect → Rect
bottom_right r = record { x = right_of r - 1; y = bottom_of r - 1; width = 1; height = 1 }

abbrev pub top_right : Rect → Rect
top_right r = record { x = right_of r - 1; y = r.y; width = 1; height = 1 }

abbrev pub bottom_left : Rect → Rect
bottom_left r = record { x = r.x; y = bottom_of r - 1; width = 1; height = 1 }

abbrev pub top_left : Rect → Rect
top_left r = record { x = r.x; y = r.y; width = 1; height = 1 }
