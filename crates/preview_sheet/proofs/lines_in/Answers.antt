-- `preview_sheet::lines_in` meets its contract.
use mathlib.Core.Path.{◌∙◌}
use Rattle.preview_sheet.proofs.Sheets.{err_of, lines-counted, lines_refused}
use Rattle.preview_sheet.proofs.lines_in.Goals as goal

pub returns-in_err-lines : goal.returns-in_err-lines
returns-in_err-lines c = err_of _ _ c.from_residual.ensures.1 ∙ lines_refused _ _ _ _ _ c.no_block.ensures _ c.line_count.ensures _ c.in_err-lines.was

pub returns : goal.returns
returns c = lines-counted _ _ _ _ _ c.no_block.ensures _ c.line_count.ensures _ c.in_ok-lines.was
