-- `line_composer::LineComposer::next` meets its contract.
use Rattle.line_composer.proofs.Pulling.{composing}
use Rattle.line_composer.proofs.LineComposer.next.Goals as goal

pub loop-run-init : goal.loop-run-init
loop-run-init c = search composing

pub returns-in-loop-run : goal.returns-in-loop-run
returns-in-loop-run c = search composing

pub returns-then-text-to : goal.returns-then-text-to
returns-then-text-to c = search composing

pub loop-run-preserved : goal.loop-run-preserved
loop-run-preserved c = search composing
