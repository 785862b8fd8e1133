-- Document 01, 'Inner area and frame' and its shadow: rectangles, with sums and differences saturating in 16 bits.
use Rattle.std.specs.Prelude.{ℕ, suc, ◌+◌, ◌-◌, min, max, Bool, ◌&&◌, ◌||◌, eqb, leb, ltb, ℤ, pos, negsuc}
use Rattle.num.specs.Held.{held}
use Rattle.layout.specs.declared.Rect.{Rect}

-- "Right and bottom are x + width and y + height, held at 65,535"
abbrev pub right_of : Rect → ℕ
right_of r = held (r.x + r.width)

abbrev pub bottom_of : Rect → ℕ
bottom_of r = held (r.y + r.height)

-- "meets area and screen": "larger x and y, smaller right and bottom"
abbrev pub meet : Rect → Rect → Rect
meet a b =
    record {
      x = max a.x b.x;
      y = max a.y b.y;
      width = min (right_of a) (right_of b) - max a.x b.x;
      height = min (bottom_of a) (bottom_of b) - max a.y b.y;
    }

-- width or height is 0
abbrev pub is_empty : Rect → Bool
is_empty r = eqb r.width 0 || eqb r.height 0

-- first ≤ n < end
abbrev pub within : ℕ → ℕ → ℕ → Bool
within first end n = leb first n && ltb n end

-- whether the cell at a column and a row is in the rectangle
abbrev pub contains : Rect → ℕ → ℕ → Bool
contains r column row = within r.x (right_of r) column && within r.y (bottom_of r) row

-- a coordinate moved by a signed offset, clamped from 0 to `most`
abbrev pub moved : ℕ → ℤ → ℕ → ℕ
moved place (pos n) most = min (place + n) most
moved place (negsuc n) most = min (place - suc n) most

-- "x moves by a signed 32-bit offset, held from 0 to 65,535 less width; y likewise"
abbrev pub offset_by : Rect → ℤ → ℤ → Rect
offset_by r x y =
    record {
      x = moved r.x x (65535 - r.width);
      y = moved r.y y (65535 - r.height);
      width = r.width;
      height = r.height;
    }
