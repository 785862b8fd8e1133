-- `word_wrapper::WordWrapper::step` meets its contract.
use Rattle.word_wrapper.proofs.StepLaws.{stepping}
use Rattle.word_wrapper.proofs.Pulling.{sound-joined, joined_at, join-fits, fits_eight}
use native.Mathlib.Omega.{arith}
use borrow.Author.Rules.{rules}
use Rattle.word_wrapper.proofs.WordWrapper.step.Goals as goal

pub returns-in_default-clause-line : goal.returns-in_default-clause-line
returns-in_default-clause-line c = search stepping

pub returns-in_default-clause-state : goal.returns-in_default-clause-state
returns-in_default-clause-state c = search stepping

pub join_if_due-requires : goal.join_if_due-requires
join_if_due-requires c = search join-fits

pub emit_or_append-requires-clause-wrapper_invariant : goal.emit_or_append-requires-clause-wrapper_invariant
emit_or_append-requires-clause-wrapper_invariant c = search sound-joined

pub emit_or_append-requires-clause-few_records : goal.emit_or_append-requires-clause-few_records
emit_or_append-requires-clause-few_records c = (search rules, omega (arith, joined_at), search fits_eight)

pub returns-clause-line : goal.returns-clause-line
returns-clause-line c = search stepping

pub returns-clause-state : goal.returns-clause-state
returns-clause-state c = search stepping
