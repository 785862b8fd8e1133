-- `render_borders::render_borders` meets its contract.
use mathlib.Core.Path.{refl}
use Rattle.render_borders.proofs.Borders.{borders-drawn}
use Rattle.render_borders.proofs.Parts.{sides-fit, corners-fit}
use Rattle.render_borders.proofs.render_borders.Goals as goal

pub render_edges-requires : goal.render_edges-requires
render_edges-requires c = let pre = c.requires in record { edges_fit = sides-fit _ _ _ _ pre.on_screen pre.symbols_fit.1 refl _ pre.symbols_fit.0 _ c.sides-sides.ensures }

pub render_edges-requires-2 : goal.render_edges-requires-2
render_edges-requires-2 c = let pre = c.requires in record { edges_fit = corners-fit _ _ _ _ pre.on_screen pre.symbols_fit.1 c.render_edges.auto.cells _ pre.symbols_fit.0 _ c.corners-corners.ensures }

pub returns : goal.returns
returns c = borders-drawn _ _ _ _ _ _ _ _ _ c.sides-sides.ensures c.corners-corners.ensures c.render_edges.ensures c.render_edges-2.ensures
