-- `preview_sheet::draw_both` meets its contract.
use mathlib.Core.Path.{◌∙◌}
use Rattle.preview_sheet.proofs.Sheets.{err_of, frame_refused, text-laid}
use Rattle.preview_sheet.proofs.draw_both.Goals as goal

pub returns-in_err-inner : goal.returns-in_err-inner
returns-in_err-inner c =
    let refused = frame_refused _ _ _ c.draw_frame.ensures _ c.in_err-inner.was in
    (err_of _ _ c.from_residual.ensures.1 ∙ refused.0, refused.1)

pub returns : goal.returns
returns c = text-laid _ _ _ c.draw_frame.ensures _ _ c.in_ok-inner.was c.text_settings-settings.ensures _ _ c.draw_text.ensures
