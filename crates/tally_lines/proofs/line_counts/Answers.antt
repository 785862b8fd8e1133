-- `tally_lines::line_counts` meets its contract.
use Rattle.tally_lines.proofs.Summing.{summing}
use borrow.Author.Rules.{rules}
use Rattle.tally_lines.proofs.line_counts.Goals as goal

pub loop-line-init : goal.loop-line-init
loop-line-init c = search summing

pub plus-counts-requires : goal.plus-counts-requires
plus-counts-requires c = record { lines_bound = search (summing, rules, c.in-Some.ensures); clipped_bound = search (summing, rules, c.in-Some.ensures) }

pub loop-line-preserved : goal.loop-line-preserved
loop-line-preserved c = search (summing, c.in-Some.ensures)

pub returns-in_default : goal.returns-in_default
returns-in_default c = search (summing, c.in_default.ensures)
