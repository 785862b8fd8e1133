-- `wrapping::Run::after_fitting` meets its contract.
use Rattle.wrapping.proofs.Fitting.{Dropping}
use Rattle.wrapping.proofs.Run.after_fitting.Given as goal

abbrev pub invariant-loop-i : goal.invariant-loop-i
invariant-loop-i l = Dropping l.rule l.records l.self l.room l.left l.i
