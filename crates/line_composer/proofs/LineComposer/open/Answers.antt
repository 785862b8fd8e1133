-- `line_composer::LineComposer::open` meets its contract.
use Rattle.text.proofs.TextLines.{rest-within}
use native.Mathlib.Omega.{arith}
use Rattle.line_composer.proofs.LineComposer.open.Goals as goal

pub overflow_add-self : goal.overflow_add-self
overflow_add-self c = omega (arith, c.line_length-glyphs.ensures, rest-within c.args.text.now c.args.at c.requires)
