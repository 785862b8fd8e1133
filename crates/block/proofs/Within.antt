-- An inner area with a cell starts after the border or title at the left and top, and ends before those at the right and bottom.
use Prim.Native.Nat.{ℕ, ◌+◌, ◌-◌, ◌<◌, ◌≤◌}
use mathlib.Core.Path.{◌≡◌}
use mathlib.Core.Bool.{Bool, true, false}
use mathlib.Core.List.{List}
use native.Mathlib.Omega.{arith}
use Rattle.num.specs.Held.{held}
use Rattle.layout.specs.declared.Rect.{Rect}
use Rattle.layout.specs.Rect.{right_of, bottom_of}
use Rattle.block.specs.declared.Block.{Block}
use Rattle.block.specs.Inner.{at_left, at_top, at_right, at_bottom, moved_in, taken, inner_of}

-- start and size of the inner area along a row or column
abbrev inner_start : Bool → ℕ → ℕ → ℕ → ℕ
inner_start before place size padding = held (moved_in before place (held (place + size)) + padding)

abbrev inner_size : Bool → Bool → ℕ → ℕ → ℕ → ℕ
inner_size before after size padding paddingAfter = size - taken before - taken after - held (padding + paddingAfter)

-- if the inner size isn't 0, the cells taken, the paddings and the inner size add up to the size
sizes_add_up : (before after : Bool) (size padding paddingAfter : ℕ) → size ≤ 65535 → 0 < inner_size before after size padding paddingAfter
    → taken before + padding + inner_size before after size padding paddingAfter + paddingAfter + taken after ≡ size
sizes_add_up true true size padding paddingAfter fits some = omega arith
sizes_add_up true false size padding paddingAfter fits some = omega arith
sizes_add_up false true size padding paddingAfter fits some = omega arith
sizes_add_up false false size padding paddingAfter fits some = omega arith

-- and no sum saturates: the inner area starts after the cell taken and the padding
start_exact : (before : Bool) (place size padding : ℕ) → place + size ≤ 65535 → taken before + padding ≤ size → inner_start before place size padding ≡ place + taken before + padding
start_exact true place size padding fits less = omega arith
start_exact false place size padding fits less = omega arith

-- so it ends before the cell taken at the end
ends-before : (place size before padding start inner paddingAfter after : ℕ) → place + size ≤ 65535
    → start ≡ place + before + padding → before + padding + inner + paddingAfter + after ≡ size → held (start + inner) + after ≤ held (place + size)
ends-before place size before padding start inner paddingAfter after fits s r = omega arith

-- both bounds along one axis, for the columns and for the rows
bounds_along_axis : (before after : Bool) (place size padding paddingAfter : ℕ) → place + size ≤ 65535 → 0 < inner_size before after size padding paddingAfter
    → (place + taken before ≤ inner_start before place size padding)
    × (held (inner_start before place size padding + inner_size before after size padding paddingAfter) + taken after ≤ held (place + size))
bounds_along_axis before after place size padding paddingAfter fits some =
    let r = sizes_add_up before after size padding paddingAfter (omega arith) some in
    let s = start_exact before place size padding fits (omega arith) in
    (omega arith, ends-before place size (taken before) padding _ _ paddingAfter (taken after) fits s r)

-- the inner area lies within the borders and titles: "a left border moves x by 1", "right border takes 1 of width"
pub record InnerInside (b : Block) (titles : List ℕ) (area : Rect) : Type 0 where
  pub left : area.x + taken (at_left b) ≤ (inner_of b titles area).x
  pub top : area.y + taken (at_top b titles) ≤ (inner_of b titles area).y
  pub right : right_of (inner_of b titles area) + taken (at_right b) ≤ right_of area
  pub bottom : bottom_of (inner_of b titles area) + taken (at_bottom b titles) ≤ bottom_of area

-- true of every rectangle whose right and bottom don't saturate and whose inner area has a cell
pub inside : (b : Block) (titles : List ℕ) (area : Rect) → area.x + area.width ≤ 65535 → area.y + area.height ≤ 65535
    → 0 < (inner_of b titles area).width → 0 < (inner_of b titles area).height → InnerInside b titles area
unfolding inner_of
inside b titles area across down wide high =
    let columns = bounds_along_axis (at_left b) (at_right b) area.x area.width b.padding.left b.padding.right across wide in
    let rows = bounds_along_axis (at_top b titles) (at_bottom b titles) area.y area.height b.padding.top b.padding.bottom down high in
    record { left = columns.0; top = rows.0; right = columns.1; bottom = rows.1 }
