-- `preview_sheet::paging::page_count` meets its contract.
use Rattle.std.proofs.Common.{arith}
use Rattle.preview_sheet.proofs.PageCount.{pages_counted}
use Rattle.preview_sheet.proofs.paging.page_count.Goals as goal

pub returns : goal.returns
returns c = pages_counted c.args.lines c.args.first c.args.height _ _ _ c.if-height-eq0.false (omega arith) c.from-3.ensures (rw c.div_ceil.ensures at c.max.ensures)
