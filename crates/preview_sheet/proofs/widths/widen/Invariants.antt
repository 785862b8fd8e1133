-- `preview_sheet::widths::widen` meets its contract.
use Rattle.preview_sheet.specs.WidthsExtra.{widened}
use Rattle.preview_sheet.proofs.Changing.{Changing}
use Rattle.preview_sheet.proofs.widths.widen.Given as goal

abbrev pub invariant-loop-i : goal.invariant-loop-i
invariant-loop-i l = Changing (λ old word. widened l.ambiguous word) l.initial.wide l.records l.wide l.i
