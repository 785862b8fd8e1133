-- `preview_sheet::widths::mark` meets its contract.
use Rattle.preview_sheet.specs.WidthsExtra.{with_width}
use Rattle.preview_sheet.proofs.Changing.{Changing}
use Rattle.preview_sheet.proofs.widths.mark.Given as goal

abbrev pub invariant-loop-i : goal.invariant-loop-i
invariant-loop-i l = Changing with_width l.initial.cells l.wide l.cells l.i
