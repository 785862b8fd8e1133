-- The text of the cells so far is written, and the pen determines the text of the others.
use Rattle.std.proofs.Common.{◌≡◌, ◌++◌, ◌+◌, ◌*◌, ◌≤◌, drop}
use Rattle.arrayvec.specs.ArrayVec.{array_vec_len}
use Rattle.preview_row.specs.RowExtra.{cells_text}
use Rattle.preview_row.proofs.push_cells.Given as goal

abbrev pub invariant-loop-cell : goal.invariant-loop-cell
invariant-loop-cell g l = record {
  written : l.text.items ++ cells_text l.ansi l.pen.style l.pen.covered (drop l.cell-index l.cells) ≡ l.initial.text.items ++ cells_text l.ansi 0 0 l.cells;
  upper_bound : array_vec_len l.text ≤ array_vec_len l.initial.text + 44 * l.cell-index;
}
