-- `render_block::render_borders_and_titles` meets its contract.
use Rattle.render_block.proofs.Frames.{frames}
use Rattle.render_block.proofs.render_borders_and_titles.Goals as goal

pub returns : goal.returns
returns c = search frames
