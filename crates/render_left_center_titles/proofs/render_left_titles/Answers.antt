-- `render_left_center_titles::render_left_titles` meets its contract.
use Rattle.titles.proofs.Left.{left-drawn}
use Rattle.render_left_center_titles.proofs.render_left_titles.Goals as goal

pub returns : goal.returns
returns c = search left-drawn
