-- `preview_sheet::widths::mark` meets its contract.
use Rattle.std.proofs.Common.{rules, arith}
use Rattle.preview_sheet.proofs.Changing.{changing, changing_done}
use Rattle.preview_sheet.proofs.widths.mark.Goals as goal

pub loop-i-preserved : goal.loop-i-preserved
loop-i-preserved c = search (changing, rules)

pub returns : goal.returns
returns c = changing_done _ _ _ _ _ c.loop-i.invariant (omega arith)
