-- At most as many calls differ as are run.
use Rattle.std.proofs.Common.{◌≤◌}
use Rattle.test_trials.proofs.run_calls.Given as goal

abbrev pub invariant-loop-call : goal.invariant-loop-call
invariant-loop-call g l = l.differ ≤ l._call
