-- Words of the contracts in this crate.
use Rattle.std.specs.Prelude.{ℕ, List, ◌<◌, ◌^◌}
use Rattle.std.specs.List.{AllByRecursion}
use Rattle.buffer.specs.declared.Screen.{Screen}
use Rattle.buffer.specs.PartsExtra.{OnScreen}
use Rattle.border_edges.specs.declared.Edge.{Edge}

-- the symbol of a side or corner fits a cell, and its cells lie on the screen, which has `count` cells
abbrev pub EdgeFits : Screen → ℕ → Edge → Type 0
EdgeFits screen count edge = (edge.symbol < 2 ^ 21) × OnScreen screen count edge.part

abbrev pub EdgesFit : Screen → ℕ → List Edge → Type 0
EdgesFit screen count edges = AllByRecursion (EdgeFits screen count) edges
