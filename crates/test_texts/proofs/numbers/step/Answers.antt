-- `test_texts::numbers::step` meets its contract.
use Rattle.std.proofs.Math.Nat.{mod-add-mod}
use Rattle.test_texts.proofs.numbers.step.Goals as goal

pub returns : goal.returns
returns c = search mod-add-mod
