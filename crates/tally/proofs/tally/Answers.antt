-- `tally::tally` meets its contract.
use Rattle.refuse.proofs.Accepted.{lines_sound}
use borrow.Author.Rules.{rules}
use Rattle.tally.proofs.tally.Goals as goal

pub text_counts-requires : goal.text_counts-requires
text_counts-requires c = let right = lines_sound _ _ _ c.line_verdict.ensures (search rules) in
    (right.few, right.opens)
