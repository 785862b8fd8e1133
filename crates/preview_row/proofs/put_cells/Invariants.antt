-- The text of the cells so far is written, and the pen determines the text of the others.
use Rattle.std.proofs.Common.{◌*◌, ◌≤◌, drop}
use Rattle.append_bytes.proofs.Writing.{Writing}
use Rattle.preview_row.specs.RowExtra.{cells_text}
use Rattle.preview_row.proofs.put_cells.Given as goal

abbrev pub invariant-loop-cell : goal.invariant-loop-cell
invariant-loop-cell l = record {
  written : Writing l.initial.buffer l.buffer l.next (cells_text l.ansi l.pen.style l.pen.covered (drop l.cell-index l.cells)) (cells_text l.ansi 0 0 l.cells);
  upper_bound : l.next ≤ 44 * l.cell-index;
}
