-- A line on a row of an area: the borrowed slice of the row's cells, and its length.
use Prim.Native.Nat.{ℕ, ◌+◌, ◌-◌, ◌*◌, ◌<◌, ◌≤◌}
use mathlib.Core.Path.{◌≡◌, ap, ◌∙◌}
use mathlib.Core.List.{List, ◌++◌}
use native.Mathlib.Omega.{arith}
use lib.ListN.{length, take, drop}
use Rattle.text.specs.Line.{total}
use Rattle.layout.specs.declared.Rect.{Rect}
use Rattle.layout.specs.Rect.{right_of, bottom_of}
use Rattle.wrapping.specs.declared.Rule.{Rule}
use Rattle.buffer.specs.declared.Screen.{Screen}
use Rattle.buffer.specs.Drawing.{changed, drawn}
use Rattle.buffer.specs.PartsExtra.{in_row}
use Rattle.buffer.proofs.Changed.{part_length}
use Rattle.buffer.proofs.Rows.{row-borrowed, row_fits}
use Rattle.line_composer.specs.declared.WrappedLine.{WrappedLine}
use Rattle.line_composer.specs.Lines.{Line, wrapped_line_of, line_at}
use Rattle.line_composer.specs.ComposingExtra.{ReadsBack}
use Rattle.render_line.specs.RenderLine.{line_on, placed_in, clipped_in}
use Rattle.buffer.specs.PartsExtra.{AreaOnScreen}

-- the width field of a composed line is the total width of its glyphs
pub width_of_glyphs : (u : Rule) (text : List ℕ) (line : WrappedLine) → ReadsBack u text line → line.width ≡ total (line_at u text line).glyphs
unfolding wrapped_line_of
width_of_glyphs u text line t = ap (λ (x : WrappedLine). x.width) t.is

module _ (s : Screen) (n : ℕ) (r : Rect) (a : AreaOnScreen s n r) where
  -- right and bottom of an area on the screen don't saturate
  pub right-sum : right_of r ≡ r.x + r.width
  right-sum = omega (arith, a.on_screen.right, a.few_columns)

  pub bottom-sum : bottom_of r ≡ r.y + r.height
  bottom-sum = omega (arith, a.on_screen.bottom, a.few_rows)

  -- a row of the area ends within the cells
  pub row-end : (row : ℕ) → row < r.height → (r.y + row) * s.columns + right_of r ≤ n
  row-end row h =
      row_fits s.columns (right_of r) (r.y + row) s.rows n a.on_screen.right (omega (arith, bottom-sum, a.on_screen.bottom)) a.on_screen.size

module _ (s : Screen) (r : Rect) (cells : List ℕ) (row right : ℕ) (a : AreaOnScreen s (length cells) r) (h : row < r.height) (e : right ≡ right_of r) where
  -- the borrowed slice is as long as the area is wide
  part-width : length (take (((r.y + row) * s.columns + right) - ((r.y + row) * s.columns + r.x)) (drop ((r.y + row) * s.columns + r.x) cells)) ≡ r.width
  part-width =
      let w = right-sum s (length cells) r a in
      part_length ((r.y + row) * s.columns + r.x) ((r.y + row) * s.columns + right) cells (omega (arith, e, w)) (omega (arith, e, row-end s (length cells) r a row h))
      ∙ omega (arith, e, w)

  pub row-drawn : (styles : List ℕ) (style : ℕ) (line : Line) (part : List ℕ)
      → part ≡ changed (line_on styles style (length (take (((r.y + row) * s.columns + right) - ((r.y + row) * s.columns + r.x)) (drop ((r.y + row) * s.columns + r.x) cells))) line)
      (take (((r.y + row) * s.columns + right) - ((r.y + row) * s.columns + r.x)) (drop ((r.y + row) * s.columns + r.x) cells))
      → take ((r.y + row) * s.columns + r.x) cells ++ (part ++ drop (((r.y + row) * s.columns + right) - ((r.y + row) * s.columns + r.x)) (drop ((r.y + row) * s.columns + r.x) cells))
      ≡ drawn s.columns (in_row r.x (right_of r) (r.y + row) (line_on styles style r.width line)) cells
  row-drawn styles style line part p =
      rw e
      (row-borrowed s.columns r.x (right_of r) (r.y + row) (line_on styles style r.width line) cells part a.on_screen.columns
      (omega (arith, right-sum s (length cells) r a)) a.on_screen.right (row-end s (length cells) r a row h)
      (rw e at (rw part-width at p)))

  pub row-placed : (line : Line) (n : ℕ)
      → n ≡ placed_in (length (take (((r.y + row) * s.columns + right) - ((r.y + row) * s.columns + r.x)) (drop ((r.y + row) * s.columns + r.x) cells))) line
      → n ≡ placed_in r.width line
  row-placed line n p = rw part-width at p

  pub row-clipped : (line : Line) (n : ℕ)
      → n ≡ clipped_in (length (take (((r.y + row) * s.columns + right) - ((r.y + row) * s.columns + r.x)) (drop ((r.y + row) * s.columns + r.x) cells))) line
      → n ≡ clipped_in r.width line
  row-clipped line n p = rw part-width at p
