-- `line_truncator::shown_run` meets its contract.
use Rattle.line_truncator.proofs.Truncating.{Showing}
use Rattle.line_truncator.proofs.shown_run.Given as goal

abbrev pub invariant-loop-at : goal.invariant-loop-at
invariant-loop-at l = Showing l.rule l.records l.offset-2 l.offset l.run l.at
