-- `test_answers::texts::sum_truncated` meets its contract.
use borrow.Author.Rules.{rules}
use Rattle.test_answers.proofs.Pulling.{first_fits, end_fits, width_fits, count_fits, pulling_ends}
use Rattle.test_answers.proofs.texts.sum_truncated.Goals as goal

pub returns-in_default : goal.returns-in_default
returns-in_default c = pulling_ends _ _ _ _ _ _ _ _ c.loop-line.invariant _ c.in_default.ensures c.with_number.ensures

pub with_line-sum-requires : goal.with_line-sum-requires
with_line-sum-requires c = (
  first_fits _ _ _ _ _ _ _ _ c.loop-line.invariant _ c.in-Some.ensures c.requires.0,
  end_fits _ _ _ _ _ _ _ _ c.loop-line.invariant _ c.in-Some.ensures c.requires.0,
  width_fits _ _ _ _ _ _ _ _ c.loop-line.invariant _ c.in-Some.ensures c.requires.0,
)

pub overflow_add-count : goal.overflow_add-count
overflow_add-count c = count_fits _ _ _ _ _ _ _ _ c.loop-line.invariant _ c.in-Some.ensures c.requires.0
