-- `shadow::render_shadow` meets its contract.
use Rattle.shadow.proofs.Effects.{shadows}
use borrow.Author.Rules.{rules}
use Rattle.shadow.proofs.render_shadow.Goals as goal

pub returns-in_default : goal.returns-in_default
returns-in_default c = search shadows

pub returns-then-is_empty : goal.returns-then-is_empty
returns-then-is_empty c = search shadows

pub render_shadow_cells-requires : goal.render_shadow_cells-requires
render_shadow_cells-requires c = record { effect_fits = search (shadows, rules); on_screen = search (shadows, rules) }

pub returns : goal.returns
returns c = search shadows
