-- `render_left_center_titles::render_titles_forward` meets its contract.
use Rattle.titles.proofs.Walking.{walk_starts}
use borrow.Author.Rules.{rules}
use Rattle.render_left_center_titles.proofs.render_titles_forward.Goals as goal

pub loop-head-init : goal.loop-head-init
loop-head-init c = walk_starts _ _ _ _ _ _ _ _ _ (search rules) c.requires.columns_nonzero.0 c.requires.columns_nonzero.1 c.requires.area_fits
