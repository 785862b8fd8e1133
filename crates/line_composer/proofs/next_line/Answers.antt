-- `line_composer::next_line` meets its contract.
use Rattle.line_composer.proofs.Composers.{pulling-lines}
use Rattle.line_composer.proofs.next_line.Goals as goal

pub returns-then-wrapper : goal.returns-then-wrapper
returns-then-wrapper c = search pulling-lines

pub returns-in-WordWrap : goal.returns-in-WordWrap
returns-in-WordWrap c = search pulling-lines

pub returns-else-wrapper : goal.returns-else-wrapper
returns-else-wrapper c = search pulling-lines
