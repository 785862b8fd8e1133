-- `listlines_output::put_lines` meets its contract.
use Rattle.append_bytes.proofs.Writing.{written_then}
use Rattle.listlines_output.proofs.put_lines.Goals as goal

pub returns : goal.returns
returns c = written_then _ _ _ _ _ _ _ _ c.put_entries-next.ensures.written c.put_count.ensures
