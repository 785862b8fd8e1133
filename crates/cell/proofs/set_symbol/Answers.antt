-- `cell::set_symbol` meets its contract.
use Rattle.cell.proofs.Fields.{below-symbol}
use Rattle.cell.specs.Cell.{with_symbol}
use native.Mathlib.Omega.{arith}
use Rattle.cell.proofs.set_symbol.Goals as goal

pub returns : goal.returns
unfolding with_symbol
returns c = omega (arith, below-symbol c.args.cell)
