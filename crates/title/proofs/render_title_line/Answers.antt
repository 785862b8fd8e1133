-- `title::render_title_line` meets its contract.
use native.Mathlib.Omega.{arith}
use Rattle.title.proofs.TitleLine.{row-end, line-drawn}
use Rattle.title.proofs.render_title_line.Goals as goal

pub overflow_mul-row : goal.overflow_mul-row
overflow_mul-row c = omega (arith, row-end)

pub overflow_add-start : goal.overflow_add-start
overflow_add-start c = omega (arith, row-end)

pub overflow_add-end : goal.overflow_add-end
overflow_add-end c = omega (arith, row-end)

pub offset_bounds-cells-start : goal.offset_bounds-cells-start
offset_bounds-cells-start c = omega (arith, row-end)

pub returns : goal.returns
returns c = search line-drawn
