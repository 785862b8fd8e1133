-- `skip_rest` counts what it skips.
use Rattle.listlines_run.proofs.Skipping.{Skipping}
use Rattle.listlines_run.proofs.read.skip_rest.Given as goal

abbrev pub invariant-loop : goal.invariant-loop
invariant-loop g l = Skipping (g.R.Read.remaining l.initial.input) (g.R.Read.remaining l.input) l.over l.counter
