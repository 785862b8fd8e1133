-- `line_truncator::truncate_line` meets its contract.
use Rattle.line_truncator.proofs.truncate_line.Goals as goal

pub returns : goal.returns
returns c = rw (c.shown_run.ensures, c.horizontal_offset-taken.ensures)
