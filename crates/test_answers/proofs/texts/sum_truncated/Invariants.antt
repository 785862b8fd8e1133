-- `test_answers::texts::sum_truncated` meets its contract.
use lib.ListN.{length}
use Rattle.line_composer.specs.ComposingExtra.{remaining_lines}
use Rattle.test_answers.proofs.Pulling.{Pulling}
use Rattle.test_answers.proofs.texts.sum_truncated.Given as goal

abbrev pub invariant-loop-line : goal.invariant-loop-line
invariant-loop-line l = Pulling l.rule l.column l.default_alignment l.text l.composer l.sum l.count

abbrev pub decreases-loop-line : goal.decreases-loop-line
decreases-loop-line l = length (remaining_lines l.rule l.default_alignment l.text l.composer)
