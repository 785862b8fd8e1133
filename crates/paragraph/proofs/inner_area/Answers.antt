-- `paragraph::inner_area` meets its contract.
use Rattle.paragraph.proofs.Frames.{inner_of_met}
use Rattle.paragraph.proofs.inner_area.Goals as goal

pub returns : goal.returns
returns c = search inner_of_met
