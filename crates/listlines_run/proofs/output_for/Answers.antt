-- `listlines_run::output_for` meets its contract.
use Rattle.listlines_run.proofs.Printing.{flaw-low, output_refusal, output-lines, refusal_done, lines-done, taken-length}
use Rattle.std.proofs.Common.{◌<◌, ◌≤◌, length, take}
use Rattle.listlines_input.specs.Input.{most_records}
use native.Mathlib.Omega.{arith}
use borrow.Author.Rules.{rules}
use Rattle.listlines_run.proofs.output_for.Goals as goal

pub push_refused-requires : goal.push_refused-requires
push_refused-requires g c =
    let low : c.from.result < 100000 = rw c.from.ensures (flaw-low _) in
    search rules

pub slice_bounds-push_lines-end : goal.slice_bounds-push_lines-end
slice_bounds-push_lines-end g c = (output-lines _ _ c.requires.most_records_in_bounds.1 _ c.answer_to.ensures.0 _ c.answer_to.ensures.1 _ c.in-Ok.is).fits

pub slice_bounds-push_lines-end-in-Ok : goal.slice_bounds-push_lines-end-in-Ok
slice_bounds-push_lines-end-in-Ok g c = taken-length _ _ _ (output-lines _ _ c.requires.most_records_in_bounds.1 _ c.answer_to.ensures.0 _ c.answer_to.ensures.1 _ c.in-Ok.is)

pub push_lines-requires : goal.push_lines-requires
push_lines-requires g c =
    let printed = output-lines _ _ c.requires.most_records_in_bounds.1 _ c.answer_to.ensures.0 _ c.answer_to.ensures.1 _ c.in-Ok.is in
    let taken = taken-length _ _ _ printed in
    let few : length (take c.in-Ok.count c.answer_to.new.list) ≤ most_records = omega (arith, printed.few, taken) in
    search rules

pub returns-in-Err : goal.returns-in-Err
returns-in-Err g c =
    refusal_done _ _ _ _ _ c.from.ensures (output_refusal _ _ c.requires.most_records_in_bounds.1 _ c.answer_to.ensures.0 _ c.in-Err.is) c.push_refused.ensures

pub returns-in-Ok : goal.returns-in-Ok
returns-in-Ok g c =
    lines-done _ _ _ _ _ (output-lines _ _ c.requires.most_records_in_bounds.1 _ c.answer_to.ensures.0 _ c.answer_to.ensures.1 _ c.in-Ok.is) c.push_lines.ensures
