-- `buffer::paint_area` meets its contract.
use Rattle.buffer.specs.InkExtra.{inked}
use Rattle.buffer.proofs.Rows.{DrawingRows}
use Rattle.buffer.proofs.paint_area.Given as goal

abbrev pub invariant-loop-y : goal.invariant-loop-y
invariant-loop-y l = DrawingRows l.columns l.left l.right l.fn.area.y l.bottom (λ j i cell. inked l.ink cell) l.initial.cells l.cells l.y
