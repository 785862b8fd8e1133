-- `render_titles::render_titles` meets its contract.
use Rattle.titles.proofs.Positions.{positions}
use Rattle.render_titles.proofs.render_titles.Goals as goal

pub returns : goal.returns
returns c = search positions
