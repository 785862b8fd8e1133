-- `cell::set_style` meets its contract.
use Rattle.cell.specs.Cell.{styled}
use Rattle.cell.proofs.set_style.Goals as goal

pub returns : goal.returns
unfolding styled
returns c = rw (
  c.pack.ensures,
  c.untouched.ensures,
  c.symbol.ensures,
  c.modified-modifiers_set.ensures.0,
  c.remove.ensures,
  c.add.ensures,
  c.modifiers.ensures,
  c.colour-background_set.ensures.0,
  c.background-2.ensures,
  c.background.ensures,
  c.background_given.ensures,
  c.colour-foreground_set.ensures.0,
  c.foreground-2.ensures,
  c.foreground.ensures,
  c.foreground_given.ensures,
)
