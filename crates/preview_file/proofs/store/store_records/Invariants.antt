-- `preview_file::store::store_records` meets its contract.
use Rattle.preview_file.specs.NumbersExtra.{number4, numbers_from}
use Rattle.preview_file.proofs.Storing.{Storing}
use Rattle.preview_file.proofs.store.store_records.Given as goal

abbrev pub invariant-loop-i : goal.invariant-loop-i
invariant-loop-i l = Storing (numbers_from (number4 l.input) 4 l.from l.count) l.initial.records l.records l.i
