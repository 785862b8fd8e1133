-- `preview_sheet::measured` meets its contract.
use mathlib.Core.Path.{◌∙◌}
use Rattle.preview_sheet.proofs.Sheets.{err_of, inner-answered, area-measured, area_refused}
use Rattle.preview_sheet.proofs.measured.Goals as goal

pub returns-in_err-inside : goal.returns-in_err-inside
returns-in_err-inside c =
    let inner = inner-answered c.args.opening _ _ _ _ c.from.ensures c.met-met.ensures c.inner.ensures in
    err_of _ _ c.from_residual.ensures.1 ∙ area_refused c.args.opening _ _ _ inner _ c.in_err-inside.was

pub returns : goal.returns
returns c =
    let inner = inner-answered c.args.opening _ _ _ _ c.from.ensures c.met-met.ensures c.inner.ensures in
    area-measured c.args.opening _ _ _ inner _ _ _ _ c.in_ok-inside.was c.named_wrap.ensures c.ambiguous_named-ambiguous.ensures c.lines_in.ensures
