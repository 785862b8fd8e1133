-- `buffer::paint_row` meets its contract.
use Rattle.buffer.specs.InkExtra.{inked}
use Rattle.buffer.proofs.Changed.{Changing}
use Rattle.buffer.proofs.paint_row.Given as goal

abbrev pub invariant-loop-cell : goal.invariant-loop-cell
invariant-loop-cell l = Changing (λ n cell. inked l.ink cell) l.initial.cells l.cells l.cell-index
