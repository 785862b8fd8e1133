-- `preview_sheet::widths::widened_record` meets its contract.
use Rattle.preview_sheet.proofs.Widening.{widened-head, widened-glyph}
use Rattle.preview_sheet.proofs.widths.widened_record.Goals as goal

pub returns-then-is_head : goal.returns-then-is_head
returns-then-is_head c = search widened-head

pub returns : goal.returns
returns c = search widened-glyph
