-- `preview_sheet::notice_at` meets its contract.
use Rattle.preview_sheet.proofs.Sheets.{scrolled}
use Rattle.preview_sheet.proofs.notice_at.Goals as goal

pub returns : goal.returns
returns c = scrolled c.args.opening.block c.args.opening.text c.args.first _ c.notice.ensures
