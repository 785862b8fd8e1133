-- `count_lines::count_lines` meets its contract.
use Rattle.count_lines.proofs.Counting.{counting_fits}
use Rattle.count_lines.proofs.count_lines.Goals as goal

pub overflow_add-count : goal.overflow_add-count
overflow_add-count c = counting_fits _ _ _ _ _ _ c.loop-count.invariant _ c.in-Some.ensures c.requires.0
