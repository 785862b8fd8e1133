-- `paint_outside::paint_outside` meets its contract.
use Rattle.paint_outside.proofs.Parts.{above-on_screen, below-on_screen, left_on_screen, right_on_screen}
use borrow.Author.Rules.{rules}
use Rattle.paint_outside.proofs.Painted.{outside_painted}
use Rattle.paint_outside.proofs.paint_outside.Goals as goal

pub paint_both-requires-clause-on_screen : goal.paint_both-requires-clause-on_screen
paint_both-requires-clause-on_screen c = (search above-on_screen, search below-on_screen)

pub paint_both-requires-2-clause-on_screen : goal.paint_both-requires-2-clause-on_screen
paint_both-requires-2-clause-on_screen c = (
  left_on_screen _ _ _ _ _ _ c.left_of-left.ensures c.requires.on_screen.1 c.requires.on_screen.0 c.paint_both.auto.cells (search rules) (search rules) (search rules),
  right_on_screen _ _ _ _ _ _ c.right_from-right.ensures c.requires.on_screen.1 c.requires.on_screen.0 c.paint_both.auto.cells (search rules) (search rules) (search rules),
)

pub returns : goal.returns
returns c = search outside_painted
