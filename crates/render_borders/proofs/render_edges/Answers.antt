-- `render_borders::render_edges` meets its contract.
use Rattle.std.proofs.Common.{rules}
use Rattle.render_borders.proofs.Borders.{next_fits, drawing_on, drawing_ends}
use Rattle.render_borders.proofs.render_edges.Goals as goal

pub render_edge-requires-clause-on_screen : goal.render_edge-requires-clause-on_screen
render_edge-requires-clause-on_screen c = (next_fits _ _ _ _ _ _ _ c.loop-edge.invariant _ (search rules)).1

pub loop-edge-preserved : goal.loop-edge-preserved
loop-edge-preserved c = drawing_on _ _ _ _ _ _ _ c.loop-edge.invariant _ _ (search rules) c.render_edge.auto.cells c.render_edge.ensures

pub returns : goal.returns
returns c = drawing_ends _ _ _ _ _ _ _ c.loop-edge.invariant (search rules)
