-- `render_line::render_line` meets its contract.
use native.Mathlib.Omega.{arith}
use Rattle.render_line.proofs.RowDrawn.{width_of_glyphs, row-end, row-drawn, row-placed, row-clipped}
use Rattle.render_line.proofs.render_line.Goals as goal

pub overflow_mul-start_of_row : goal.overflow_mul-start_of_row
overflow_mul-start_of_row c = omega (arith, row-end _ _ _ c.requires.area_on_screen _ c.requires.reads_back.2)

pub overflow_add-start : goal.overflow_add-start
overflow_add-start c = omega (arith, row-end _ _ _ c.requires.area_on_screen _ c.requires.reads_back.2)

pub overflow_add-end : goal.overflow_add-end
overflow_add-end c = omega (arith, row-end _ _ _ c.requires.area_on_screen _ c.requires.reads_back.2)

pub offset_bounds-cells-start : goal.offset_bounds-cells-start
offset_bounds-cells-start c = omega (arith, row-end _ _ _ c.requires.area_on_screen _ c.requires.reads_back.2)

pub slice_bounds-write_line-end : goal.slice_bounds-write_line-end
slice_bounds-write_line-end c = omega (arith, row-end _ _ _ c.requires.area_on_screen _ c.requires.reads_back.2)

pub write_line-requires-clause-width_value : goal.write_line-requires-clause-width_value
write_line-requires-clause-width_value c = search width_of_glyphs

pub returns-clause-cells : goal.returns-clause-cells
returns-clause-cells c = search row-drawn

pub returns-clause-placed : goal.returns-clause-placed
returns-clause-placed c = search row-placed

pub returns-clause-clipped : goal.returns-clause-clipped
returns-clause-clipped c = search row-clipped
