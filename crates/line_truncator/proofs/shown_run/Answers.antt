-- `line_truncator::shown_run` meets its contract.
use Rattle.line_truncator.proofs.Truncating.{showing}
use Rattle.line_truncator.proofs.shown_run.Goals as goal
use Rattle.line_truncator.proofs.shown_run.Goals.{else-offset-gt0, then-offset-gt0+else-w-offset}

pub loop-at-preserved-then-rule-w : goal.loop-at-preserved-then-rule-w
loop-at-preserved-then-rule-w c = search showing

pub returns-then-rule-run : goal.returns-then-rule-run
returns-then-rule-run c = search showing

pub loop-at-preserved-then-w-offset : goal.loop-at-preserved-then-w-offset
loop-at-preserved-then-w-offset c = search showing

pub loop-at-preserved : goal.loop-at-preserved
loop-at-preserved c = elim c.if-offset-gt0.branch [ then-offset-gt0+else-w-offset w ↦ search showing | else-offset-gt0 w ↦ search showing ]
