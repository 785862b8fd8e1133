-- `buffer::paint_row_part` meets its contract.
use Rattle.std.proofs.Common.{rules}
use Rattle.buffer.proofs.Rows.{row-borrowed-at}
use Rattle.buffer.proofs.paint_row_part.Goals as goal

pub returns : goal.returns
returns c = search (row-borrowed-at, rules)
