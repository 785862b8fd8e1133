-- `render_block::render_frame` meets its contract.
use Rattle.render_borders.proofs.Symbols.{shadow_symbol-fits}
use Rattle.render_block.proofs.Frames.{frames}
use Rattle.render_block.proofs.render_frame.Goals as goal

pub render_shadow-requires-clause-shadow_fits : goal.render_shadow-requires-clause-shadow_fits
render_shadow-requires-clause-shadow_fits c = search shadow_symbol-fits

pub returns : goal.returns
returns c = search frames
