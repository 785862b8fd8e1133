-- `render_lines::render_lines` meets its contract.
use Rattle.render_lines.proofs.TextDrawn.{DrawingText}
use Rattle.render_lines.proofs.render_lines.Given as goal

abbrev pub invariant-loop-row : goal.invariant-loop-row
invariant-loop-row l = DrawingText l.screen l.initial.cells l.styles l.text l.area l.options l.cells l.composer l.placed l.clipped l.row
