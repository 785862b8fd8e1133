-- Not in the papers: bounds of the screens for which areas are generated.
use Rattle.std.specs.Prelude.{◌≤◌, ◌<◌}
use Rattle.buffer.specs.declared.Screen.{Screen}

-- a screen of a size that calls accept
pub record Accepted (screen : Screen) : Type 0 where
  pub columns : 0 < screen.columns
  pub rows : 0 < screen.rows
  pub most_columns : screen.columns ≤ 512
  pub most_rows : screen.rows ≤ 256
