-- `tally::tallying::text_counts` meets its contract.
use Rattle.tally.proofs.Rest.{rest}
use Rattle.tally.proofs.tallying.text_counts.Goals as goal

pub returns-then-rule-eq0 : goal.returns-then-rule-eq0
returns-then-rule-eq0 c = search rest

pub overflow_sub-result : goal.overflow_sub-result
overflow_sub-result c = search rest

pub overflow_sub-result-2 : goal.overflow_sub-result-2
overflow_sub-result-2 c = search rest

pub overflow_sub-result-3 : goal.overflow_sub-result-3
overflow_sub-result-3 c = search rest

pub overflow_sub-result-4 : goal.overflow_sub-result-4
overflow_sub-result-4 c = search rest

pub returns : goal.returns
returns c = search rest
