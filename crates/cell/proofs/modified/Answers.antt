-- `cell::modified` meets its contract.
use mathlib.Core.Path.{refl}
use native.Mathlib.Nat.{lt_of_le_of_lt}
use lib.Bits.{and_le_l, or_lt}
use Rattle.cell.proofs.modified.Goals as goal

pub returns : goal.returns
returns c = (refl, lt_of_le_of_lt (and_le_l _ _) (or_lt 9 _ _ c.requires.0 c.requires.1))
