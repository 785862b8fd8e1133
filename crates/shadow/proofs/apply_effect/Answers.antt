-- `shadow::apply_effect` meets its contract.
use Rattle.shadow.proofs.Effects.{effects}
use borrow.Author.Rules.{rules}
use Rattle.shadow.proofs.apply_effect.Goals as goal

pub returns-in_default : goal.returns-in_default
returns-in_default c = search effects

pub paint_outside-requires : goal.paint_outside-requires
paint_outside-requires c = record { symbol_fits = search (effects, rules); on_screen = search (effects, rules) }

pub returns : goal.returns
returns c = search effects
