-- `list_lines::write_lines` meets its contract.
use Rattle.list_lines.proofs.Writing.{WritingNext}
use Rattle.list_lines.proofs.write_lines.Given as goal

abbrev pub invariant-loop-item : goal.invariant-loop-item
invariant-loop-item l = WritingNext (record { rule = l.rule; default = l.default_alignment; text = l.text; old = l.initial.item-items }) l.item-items l.next l.composer l.item-index
