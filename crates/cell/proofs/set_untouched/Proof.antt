-- `cell::set_untouched` meets its contract.
use Rattle.cell.specs.Cell.{with_untouched}
use borrow.Author.Rules.{rules}
use Rattle.cell.proofs.set_untouched.Statement.{statement}
use Rattle.cell.proofs.set_untouched.Tie as tie

returns : tie.Need-returns
unfolding with_untouched
returns c = search rules

pub set_untouched_spec : {M : Type 1} → statement M
set_untouched_spec = tie.close (tie.spec (search rules) (search rules) returns)
