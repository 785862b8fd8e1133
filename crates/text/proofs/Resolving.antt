-- The number of an alignment.
use Prim.Native.Nat.{ℕ, ◌<◌}
use mathlib.Core.Path.{◌≡◌}
use native.Mathlib.Omega.{arith}
use Rattle.text.specs.declared.Alignment.{Alignment}
use Rattle.text.specs.declared.Alignment.TheVariants.{Left, Center, Right}
use Rattle.text.specs.Alignment.{alignment_number}

-- it is never 3
pub alignment-small : (n : ℕ) (alignment : Alignment) → n ≡ alignment_number alignment → n < 3
alignment-small n Left e = omega arith
alignment-small n Center e = omega arith
alignment-small n Right e = omega arith
