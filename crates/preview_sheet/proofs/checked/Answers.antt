-- `preview_sheet::checked` meets its contract.
use Rattle.preview_sheet.proofs.Sheets.{page_checked}
use Rattle.preview_sheet.proofs.checked.Goals as goal

pub returns : goal.returns
returns c = page_checked c.args.opening _ _ _ _ _ _ _ _ _ c.from-columns.ensures c.from-rows.ensures c.from-area.ensures c.notice_at-notice.ensures _ c.pages.ensures
