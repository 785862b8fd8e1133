-- `render_right_titles::render_titles_backward` meets its contract.
use Rattle.titles.proofs.RightTitles.{WalkingBack}
use Rattle.render_right_titles.proofs.render_titles_backward.Given as goal

abbrev pub invariant-loop-end : goal.invariant-loop-end
invariant-loop-end l = WalkingBack l.titled.ambiguous l.screen l.titled.styles.now l.titled.block l.group l.titles l.initial.left l.initial.cells l.cells l.left l.end

abbrev pub decreases-loop-end : goal.decreases-loop-end
decreases-loop-end l = l.end
