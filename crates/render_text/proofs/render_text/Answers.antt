-- `render_text::render_text` meets its contract.
use Rattle.render_text.proofs.Lines.{lines-laws}
use Rattle.render_text.proofs.render_text.Goals as goal

pub returns-clause-cells : goal.returns-clause-cells
returns-clause-cells c = search lines-laws

pub returns-clause-counts : goal.returns-clause-counts
returns-clause-counts c = search lines-laws
