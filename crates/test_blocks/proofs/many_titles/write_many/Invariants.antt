-- Each title takes at most 257 records.
use Rattle.std.proofs.Common.{◌*◌, ◌≤◌}
use Rattle.test_blocks.proofs.many_titles.write_many.Given as goal

abbrev pub invariant-loop-i : goal.invariant-loop-i
invariant-loop-i l = l.place ≤ 257 * l._i
