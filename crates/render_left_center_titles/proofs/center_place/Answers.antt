-- `render_left_center_titles::center_place` meets its contract.
use Rattle.titles.proofs.Placing.{center-places}
use Rattle.render_left_center_titles.proofs.center_place.Goals as goal

pub returns-then-total-area : goal.returns-then-total-area
returns-then-total-area c = search center-places

pub returns : goal.returns
returns c = search center-places
