-- `render_right_titles::render_titles_backward` meets its contract.
use Rattle.titles.proofs.RightTitles.{walking-back}
use Rattle.render_right_titles.proofs.render_titles_backward.Goals as goal

pub loop-end-init : goal.loop-end-init
loop-end-init c = search walking-back

pub last_head-at-requires : goal.last_head-at-requires
last_head-at-requires c = search walking-back

pub render_previous_title-left-requires : goal.render_previous_title-left-requires
render_previous_title-left-requires c = search walking-back

pub loop-end-preserved : goal.loop-end-preserved
loop-end-preserved c = search walking-back

pub shape_of-cells : goal.shape_of-cells
shape_of-cells c = search walking-back

pub returns : goal.returns
returns c = search walking-back
