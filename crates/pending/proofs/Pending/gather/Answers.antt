-- `pending::Pending::gather` meets its contract.
use Rattle.wrapping.proofs.RunLaws.{append-width}
use native.Mathlib.Omega.{arith}
use Rattle.pending.proofs.Pending.gather.Goals as goal

pub append-requires-2 : goal.append-requires-2
append-requires-2 c = omega (arith, append-width)
