-- `measure_text::widest_line` meets its contract.
use Rattle.measure_text.proofs.Widening.{Widening}
use Rattle.measure_text.proofs.widest_line.Given as goal

abbrev pub invariant-loop-record : goal.invariant-loop-record
invariant-loop-record l = Widening l.ambiguous l.text l.widest l.width l.record-index
