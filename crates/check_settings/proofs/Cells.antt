-- If cause 1 doesn't hold, the screen has its cells, and its columns and rows fit in 16 bits.
use Prim.Native.Nat.{ℕ, ◌<◌, ◌^◌}
use mathlib.Core.Path.{◌≡◌}
use mathlib.Core.Bool.{false}
use native.Mathlib.Nat.{mul_comm}
use native.Mathlib.Omega.{arith}
use Rattle.refuse.specs.Causes.{most_accepted, screen_wrong}
use Rattle.refuse.proofs.Accepted.{ScreenAccepted, sized}
use Rattle.buffer.specs.Screen.{screen_of}
use Rattle.buffer.specs.PartsExtra.{HasCells}

module _ (columns rows cells : ℕ) (e : screen_wrong most_accepted columns rows cells ≡ false) where
  accepted : ScreenAccepted most_accepted columns rows cells
  accepted = sized most_accepted columns rows cells e

  pub columns_fit : columns < 2 ^ 16
  columns_fit = omega (arith, accepted.most_columns)

  pub rows_fit : rows < 2 ^ 16
  rows_fit = omega (arith, accepted.most_rows)

  pub has_cells : HasCells (screen_of columns rows) cells
  has_cells =
      record {
        columns = accepted.some_columns;
        size = omega (arith, accepted.all_cells, mul_comm rows columns);
        few_columns = omega (arith, accepted.most_columns);
        few_rows = omega (arith, accepted.most_rows);
      }
