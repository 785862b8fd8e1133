-- `tally_lines::one_line_counts` meets its contract.
use Rattle.tally_lines.proofs.Sums.{Placing}
use Rattle.tally_lines.proofs.one_line_counts.Given as goal

abbrev pub invariant-loop-i : goal.invariant-loop-i
invariant-loop-i l = Placing l.rule l.text l.fn.line.first l.i-end l.counts l.column l.i
