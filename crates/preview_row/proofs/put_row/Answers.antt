-- `preview_row::put_row` meets its contract.
use Rattle.append_bytes.proofs.Writing.{written_then}
use Rattle.preview_row.specs.RowExtra.{row_text}
use Rattle.preview_row.proofs.put_row.Goals as goal

pub returns-clause-written : goal.returns-clause-written
unfolding row_text
returns-clause-written c = written_then _ _ _ _ _ _ _ _ c.put_cells-next.ensures.written c.put_end.ensures.written
