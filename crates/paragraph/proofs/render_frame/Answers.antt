-- `paragraph::render_frame` meets its contract.
use Rattle.paragraph.proofs.Frames.{frame-laws}
use Rattle.render_block.proofs.Frames.{frames}
use borrow.Author.Rules.{rules}
use Rattle.paragraph.proofs.render_frame.Goals as goal

pub returns-then-is_empty : goal.returns-then-is_empty
returns-then-is_empty c = search frame-laws

pub render_style_and_frame-requires-clause-symbols_fit : goal.render_style_and_frame-requires-clause-symbols_fit
render_style_and_frame-requires-clause-symbols_fit c = (search rules, search frames, search frames, search frames, search rules)

pub render_style_and_frame-requires-clause-on_screen : goal.render_style_and_frame-requires-clause-on_screen
render_style_and_frame-requires-clause-on_screen c = search frames

pub returns : goal.returns
returns c = search frame-laws
