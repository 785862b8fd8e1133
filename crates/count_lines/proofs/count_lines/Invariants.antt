-- `count_lines::count_lines` meets its contract.
use lib.ListN.{length}
use Rattle.line_composer.specs.ComposingExtra.{remaining_lines}
use Rattle.count_lines.proofs.Counting.{Counting}
use Rattle.count_lines.proofs.count_lines.Given as goal

abbrev pub invariant-loop-count : goal.invariant-loop-count
invariant-loop-count l = Counting l.rule l.default_alignment l.text l.composer l.count

abbrev pub decreases-loop-count : goal.decreases-loop-count
decreases-loop-count l = length (remaining_lines l.rule l.default_alignment l.text l.composer)
