-- `text::line::Lines::next` yields the lines in order.
use Rattle.std.proofs.Common.{rules}
use mathlib.Core.Path.{ap}
use lib.ListN.{length}
use Rattle.text.proofs.CutLines.{cut_next, line_within}
use Rattle.text.proofs.line.LinesIterator.next.Goals as goal

pub split_at-requires : goal.split_at-requires
split_at-requires c = line_within _ _ c.line_length.ensures

pub returns-clause-steps : goal.returns-clause-steps
returns-clause-steps c = rw (c.in_ok-head.ensures.cases.0, c.split_at.ensures.front, c.split_at.ensures.back) (cut_next _ _ _ c.line_length.ensures)

pub returns-clause-goes : goal.returns-clause-goes
returns-clause-goes c =
    let left = ap length (returns-clause-steps c) in
    search (rules, left)
