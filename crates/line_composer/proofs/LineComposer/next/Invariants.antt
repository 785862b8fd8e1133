-- `line_composer::LineComposer::next` meets its contract.
use Prim.Native.Nat.{◌-◌}
use lib.ListN.{length}
use Rattle.line_composer.proofs.Pulling.{Composing}
use Rattle.line_composer.proofs.LineComposer.next.Given as goal

abbrev pub invariant-loop-run : goal.invariant-loop-run
invariant-loop-run l = Composing l.rule l.default_alignment l.text l.initial.self l.self

abbrev pub decreases-loop-run : goal.decreases-loop-run
decreases-loop-run l = length l.text - l.self.to
