-- `preview_file::store::store_styles` meets its contract.
use Rattle.preview_file.specs.NumbersExtra.{number8, numbers_from}
use Rattle.preview_file.proofs.Storing.{Storing}
use Rattle.preview_file.proofs.store.store_styles.Given as goal

abbrev pub invariant-loop-i : goal.invariant-loop-i
invariant-loop-i l = Storing (numbers_from (number8 l.input) 8 l.from l.count) l.initial.styles l.styles l.i
