-- Document 01, 'Inner area and frame (block.rs, padding.rs)': the padding of the four sides.
use Rattle.std.specs.Prelude.{ℕ}
use Rattle.padding.specs.declared.Padding.{Padding}

-- padding with the given left, right, top and bottom
abbrev pub padding_of : ℕ → ℕ → ℕ → ℕ → Padding
padding_of left right top bottom = record { left = left; right = right; top = top; bottom = bottom }
