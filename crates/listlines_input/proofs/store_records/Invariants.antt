-- `listlines_input::store_records` meets its contract.
use Rattle.listlines_input.proofs.Parsing.{Storing}
use Rattle.listlines_input.proofs.store_records.Given as goal

abbrev pub invariant-loop-i : goal.invariant-loop-i
invariant-loop-i l = Storing l.input l.initial.text l.text l.i
