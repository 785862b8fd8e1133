-- Not in the papers: the condition under which a title can be drawn in an area.
use Rattle.std.specs.Prelude.{ℕ, ◌<◌, ◌^◌, ◌≡◌}
use Rattle.layout.specs.declared.Rect.{Rect}
use Rattle.buffer.specs.declared.Screen.{Screen}
use Rattle.buffer.specs.PartsExtra.{OnScreen}

-- the area is one row of the screen, which has too few columns for a sum to saturate (at most 512 are accepted)
pub record TitleArea (s : Screen) (cells : ℕ) (r : Rect) : Type 0 where
  pub on_screen : OnScreen s cells r
  pub one_row : r.height ≡ 1
  pub in_rows : r.y < s.rows
  pub few_columns : s.columns < 2 ^ 15
