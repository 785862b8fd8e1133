-- `render_block::render` meets its contract.
use Rattle.render_block.proofs.Frames.{frames}
use borrow.Author.Rules.{rules}
use Rattle.render_block.proofs.render.Goals as goal

pub returns-then-is_empty : goal.returns-then-is_empty
returns-then-is_empty c = search frames

pub render_frame-requires-clause-symbols_fit : goal.render_frame-requires-clause-symbols_fit
render_frame-requires-clause-symbols_fit c = (search rules, search frames, search frames, search frames, search rules)

pub render_frame-requires-clause-on_screen : goal.render_frame-requires-clause-on_screen
render_frame-requires-clause-on_screen c = search frames

pub returns : goal.returns
returns c = search frames
