-- `preview_sheet::widths::with_width` meets its contract.
use Rattle.preview_sheet.proofs.Widening.{marked-width}
use Rattle.preview_sheet.proofs.widths.with_width.Goals as goal

pub returns : goal.returns
returns c = search marked-width
