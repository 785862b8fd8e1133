-- `test_answers::texts::truncated` meets its contract.
use Rattle.refuse.proofs.Accepted.{lines_sound}
use borrow.Author.Rules.{rules}
use Rattle.test_answers.proofs.texts.truncated.Goals as goal

pub sum_truncated-requires : goal.sum_truncated-requires
sum_truncated-requires c = let sound = lines_sound _ _ _ c.line_verdict.ensures (search rules) in
    (sound.few, sound.opens)
