-- Not in the papers: the cells of one rectangle outside another, as four rectangles: above it, below it, left and right of it.
use Rattle.std.specs.Prelude.{ℕ, ◌-◌, min, max}
use Rattle.layout.specs.declared.Rect.{Rect}
use Rattle.layout.specs.Rect.{right_of, bottom_of}

-- the rectangle from column `left` to before `right`, and from row `top` to before `bottom`
abbrev pub rect_between : ℕ → ℕ → ℕ → ℕ → Rect
rect_between left top right bottom = record { x = left; y = top; width = right - left; height = bottom - top }

unfoldable pub above : Rect → Rect → Rect
above area spared = rect_between area.x area.y (right_of area) (min (bottom_of area) spared.y)

unfoldable pub below : Rect → Rect → Rect
below area spared = rect_between area.x (max area.y (bottom_of spared)) (right_of area) (bottom_of area)

unfoldable pub left_of : Rect → Rect → Rect
left_of area spared =
    rect_between area.x (max area.y spared.y) (min (right_of area) spared.x) (min (bottom_of area) (bottom_of spared))

unfoldable pub right_from : Rect → Rect → Rect
right_from area spared =
    rect_between (max area.x (right_of spared)) (max area.y spared.y) (right_of area) (min (bottom_of area) (bottom_of spared))
