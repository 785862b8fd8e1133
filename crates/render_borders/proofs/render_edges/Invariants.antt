-- `render_borders::render_edges` meets its contract.
use Rattle.render_borders.proofs.Borders.{DrawingEdges}
use Rattle.render_borders.proofs.render_edges.Given as goal

abbrev pub invariant-loop-edge : goal.invariant-loop-edge
invariant-loop-edge l = DrawingEdges l.screen l.styles l.block l.edges l.edge-index l.initial.cells l.cells
