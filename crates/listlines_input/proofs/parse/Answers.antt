-- `listlines_input::parse` meets its contract.
use Rattle.listlines_input.proofs.Parsing.{parsing}
use borrow.Author.Rules.{rules}
use Rattle.listlines_input.proofs.parse.Goals as goal

pub returns-then-is_incomplete : goal.returns-then-is_incomplete
returns-then-is_incomplete c = search (parsing, rules)

pub trim_wrong-requires : goal.trim_wrong-requires
trim_wrong-requires c = search (parsing, rules)

pub returns-then-trim_wrong : goal.returns-then-trim_wrong
returns-then-trim_wrong c = search (parsing, rules)

pub overflow_sub-records : goal.overflow_sub-records
overflow_sub-records c = search (parsing, rules)

pub returns-then-records-gt4096 : goal.returns-then-records-gt4096
returns-then-records-gt4096 c = search (parsing, rules)

pub store_records-requires : goal.store_records-requires
store_records-requires c = search (parsing, rules)

pub limit-requires : goal.limit-requires
limit-requires c = search (parsing, rules)

pub bounds-input-2 : goal.bounds-input-2
bounds-input-2 c = search (parsing, rules)

pub shape_of-text : goal.shape_of-text
shape_of-text c = search (parsing, rules)

pub returns : goal.returns
returns c = search (parsing, rules)
