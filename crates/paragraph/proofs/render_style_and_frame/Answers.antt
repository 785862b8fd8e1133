-- `paragraph::render_style_and_frame` meets its contract.
use Rattle.paragraph.proofs.Frames.{frame-laws}
use Rattle.paragraph.proofs.render_style_and_frame.Goals as goal

pub returns : goal.returns
returns c = search frame-laws
