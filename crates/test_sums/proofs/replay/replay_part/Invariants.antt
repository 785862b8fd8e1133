-- At most as many cases differ as are replayed.
use Rattle.std.proofs.Common.{◌≤◌}
use Rattle.test_sums.proofs.replay.replay_part.Given as goal

abbrev pub invariant-loop-number : goal.invariant-loop-number
invariant-loop-number g l = goal.A-IsAlwaysCallable g l.answer × (l.differ ≤ l.number-counter)
