-- `render_left_center_titles::render_center_titles` meets its contract.
use Rattle.titles.proofs.Areas.{center-area-fits}
use Rattle.titles.proofs.Center.{center-drawn}
use Rattle.render_left_center_titles.proofs.render_center_titles.Goals as goal

pub render_titles_forward-requires-clause-area_fits : goal.render_titles_forward-requires-clause-area_fits
render_titles_forward-requires-clause-area_fits c = search center-area-fits

pub returns : goal.returns
returns c = search center-drawn
