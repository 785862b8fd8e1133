-- `render_left_center_titles::spaced_width` meets its contract.
use Rattle.text.specs.LinesExtra.{lines_left}
use Rattle.titles.proofs.Spaced.{Summing}
use Rattle.render_left_center_titles.proofs.spaced_width.Given as goal

abbrev pub invariant-loop-head : goal.invariant-loop-head
invariant-loop-head l = Summing l.titled.ambiguous l.titled.block l.group l.titled.titles.now l.sum (lines_left l.head-iterator)
