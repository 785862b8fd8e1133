-- `tally_lines::one_line_counts` meets its contract.
use Rattle.tally_lines.proofs.Sums.{placing}
use Rattle.tally_lines.proofs.one_line_counts.Goals as goal

pub loop-i-preserved-then-rule-w : goal.loop-i-preserved-then-rule-w
loop-i-preserved-then-rule-w c = search placing

pub loop-i-preserved : goal.loop-i-preserved
loop-i-preserved c = search placing

pub returns : goal.returns
returns c = search placing
