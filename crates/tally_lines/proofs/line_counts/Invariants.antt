-- `tally_lines::line_counts` meets its contract.
use lib.ListN.{length}
use Rattle.text.specs.declared.Alignment.TheVariants.{Left}
use Rattle.line_composer.specs.ComposingExtra.{remaining_lines}
use Rattle.tally_lines.proofs.Summing.{Summing}
use Rattle.tally_lines.proofs.line_counts.Given as goal

abbrev pub invariant-loop-line : goal.invariant-loop-line
invariant-loop-line l = Summing l.rule Left l.text l.composer l.counts

abbrev pub decreases-loop-line : goal.decreases-loop-line
decreases-loop-line l = length (remaining_lines l.rule Left l.text l.composer)
