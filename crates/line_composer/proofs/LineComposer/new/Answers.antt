-- `line_composer::LineComposer::new` meets its contract.
use Rattle.line_composer.proofs.Pulling.{started}
use Rattle.line_composer.proofs.LineComposer.new.Goals as goal

pub returns : goal.returns
returns c = search started
