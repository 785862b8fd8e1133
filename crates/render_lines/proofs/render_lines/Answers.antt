-- `render_lines::render_lines` meets its contract.
use Rattle.render_lines.proofs.TextDrawn.{drawing-starts, placed-fits, clipped-fits, drawing_goes, cells-short, cells-done}
use Rattle.render_lines.proofs.render_lines.Goals as goal

pub loop-row-init : goal.loop-row-init
loop-row-init c = search drawing-starts

pub returns-in_default-clause-cells : goal.returns-in_default-clause-cells
returns-in_default-clause-cells c = search cells-short

pub overflow_add-placed : goal.overflow_add-placed
overflow_add-placed c = search placed-fits

pub overflow_add-clipped : goal.overflow_add-clipped
overflow_add-clipped c = search clipped-fits

pub loop-row-preserved : goal.loop-row-preserved
loop-row-preserved c = search drawing_goes

pub returns-clause-cells : goal.returns-clause-cells
returns-clause-cells c = search cells-done
