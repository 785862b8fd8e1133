-- Document 01, 'Small notices by hand': "inner of (0,0,1,1), four borders: (1,1,0,0)", without padding and for any titles.
use Prim.Native.Nat.{ℕ}
use mathlib.Core.Path.{◌≡◌}
use mathlib.Core.Bool.{true}
use mathlib.Core.List.{List}
use Rattle.layout.specs.declared.Rect.{Rect}
use Rattle.block.specs.declared.Block.{Block}
use Rattle.block.specs.declared.Borders.{Borders}
use Rattle.padding.specs.Padding.{padding_of}
use Rattle.block.specs.Inner.{inner_of}

abbrev pub rect : ℕ → ℕ → ℕ → ℕ → Rect
rect x y width height = record { x = x; y = y; width = width; height = height }

abbrev pub four_borders : Borders
four_borders = record { top = true; right = true; bottom = true; left = true }

pub four_borders_lem : (b : Block) (titles : List ℕ) → b.borders ≡ four_borders → b.padding ≡ padding_of 0 0 0 0 → inner_of b titles (rect 0 0 1 1) ≡ rect 1 1 0 0
unfolding inner_of
four_borders_lem b titles borders padding = rw (borders, padding)
