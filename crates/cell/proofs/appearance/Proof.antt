-- `cell::appearance` meets its contract.
use Rattle.cell.proofs.Fields.{between_symbol_and_untouched}
use Rattle.cell.specs.Cell.{appearance_of}
use native.Mathlib.Omega.{arith}
use borrow.Author.Rules.{rules}
use Rattle.cell.proofs.appearance.Statement.{statement}
use Rattle.cell.proofs.appearance.Tie as tie

returns : tie.Need-returns
unfolding appearance_of
returns c = omega (arith, between_symbol_and_untouched c.args.cell)

pub appearance_spec : {M : Type 1} → statement M
appearance_spec = tie.close (tie.spec (search rules) returns)
