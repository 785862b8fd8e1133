-- `render_left_center_titles::render_titles_forward` meets its contract.
use Rattle.text.specs.LinesExtra.{lines_left}
use Rattle.titles.proofs.Walking.{Walking}
use Rattle.render_left_center_titles.proofs.render_titles_forward.Given as goal

abbrev pub invariant-loop-head : goal.invariant-loop-head
invariant-loop-head l = Walking l.titled.ambiguous l.screen l.titled.styles.now l.titled.block l.group l.titled.titles.now l.initial.place l.initial.cells l.cells l.place (lines_left l.head-iterator)
