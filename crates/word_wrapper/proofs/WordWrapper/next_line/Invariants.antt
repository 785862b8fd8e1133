-- `word_wrapper::WordWrapper::next_line` meets its contract.
use Prim.Native.Nat.{◌-◌}
use lib.ListN.{length}
use Rattle.word_wrapper.proofs.Pulling.{Pulling}
use Rattle.word_wrapper.proofs.WordWrapper.next_line.Given as goal

abbrev pub invariant-loop-wrapper : goal.invariant-loop-wrapper
invariant-loop-wrapper l = Pulling l.rule l.records l.initial.wrapper l.wrapper

abbrev pub decreases-loop-wrapper : goal.decreases-loop-wrapper
decreases-loop-wrapper l = length l.records - l.wrapper.at
