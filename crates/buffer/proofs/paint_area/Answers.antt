-- `buffer::paint_area` meets its contract.
use Rattle.buffer.proofs.Rows.{drawing-rows}
use Rattle.buffer.proofs.Over.{drawing-area}
use Rattle.buffer.proofs.paint_area.Goals as goal

pub loop-y-init : goal.loop-y-init
loop-y-init c = search drawing-area

pub paint_row_part-requires : goal.paint_row_part-requires
paint_row_part-requires c = search drawing-area

pub loop-y-preserved : goal.loop-y-preserved
loop-y-preserved c = search drawing-rows

pub returns : goal.returns
returns c = search drawing-area
