-- `shadow::render_shadow_cells` meets its contract.
use Rattle.shadow.proofs.Effects.{effects}
use Rattle.shadow.proofs.render_shadow_cells.Goals as goal

pub returns : goal.returns
returns c = search effects
