-- `preview_sheet::draw` meets its contract.
use Rattle.preview_sheet.proofs.Sheets.{drawn-notice}
use Rattle.preview_sheet.proofs.draw.Goals as goal

pub returns : goal.returns
returns c = drawn-notice c.args.opening _ _ _ _ _ _ _ _ _ _ c.from-columns.ensures c.from-rows.ensures c.from-area.ensures c.notice_at-notice.ensures (c.fill.ensures.after (λ y same. same)) _ _ c.draw_both.ensures
