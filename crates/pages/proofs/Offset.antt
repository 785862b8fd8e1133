-- Bounds of `line_offset`, the start column of a line.
use Prim.Native.Nat.{ℕ, ◌+◌, ◌≤◌}
use mathlib.Core.Path.{◌≡◌, refl}
use native.Mathlib.Omega.{arith}
use Rattle.text.specs.declared.Alignment.{Alignment}
use Rattle.text.specs.declared.Alignment.TheVariants.{Left, Center, Right}
use Rattle.render_line.specs.RenderLine.{line_offset}

-- a line that fits ends within the area, and one that doesn't starts at column 0
pub offset-fits : (a : Alignment) (area line : ℕ) → line ≤ area → line_offset a area line + line ≤ area
unfolding line_offset
offset-fits Left area line h = omega arith
offset-fits Center area line h = omega arith
offset-fits Right area line h = omega arith

pub offset-none : (a : Alignment) (area line : ℕ) → area ≤ line → line_offset a area line ≡ 0
unfolding line_offset
offset-none Left area line h = refl
offset-none Center area line h = omega arith
offset-none Right area line h = omega arith
