-- `test_answers::texts::with_line` meets its contract.
use Rattle.test_answers.proofs.LineSum.{fields_give_line-sum}
use Rattle.test_answers.proofs.texts.with_line.Goals as goal

pub returns : goal.returns
returns c = search fields_give_line-sum
