-- Document 01, 'Rows, pages, tally (paragraph.rs)': the lines of a text in an area.
use Rattle.std.specs.Prelude.{ℕ, ◌+◌, List, [], ◌∷◌, length, get_or, take, drop}
use Rattle.text.specs.declared.Alignment.TheVariants.{Left}
use Rattle.layout.specs.declared.Rect.{Rect}
use Rattle.buffer.specs.Drawing.{Drawing, inside}
use Rattle.line_composer.specs.Lines.{Line}
use Rattle.render_line.specs.RenderLine.{line_on, placed_in, clipped_in}

-- the line of a row past the last line
abbrev pub no_composed_line : Line
no_composed_line = record { alignment = Left; glyphs = [] }

-- "lines from the scroll row": row r of the area, from 0, has line scroll + r, if there is one
unfoldable pub text_on : List ℕ → ℕ → List Line → Rect → ℕ → Drawing
text_on styles textStyle lines area scroll =
    inside area (λ column row. line_on styles textStyle area.width (get_or lines (scroll + row) no_composed_line) column)

-- the lines that are drawn
unfoldable pub lines_drawn : List Line → Rect → ℕ → List Line
lines_drawn lines area scroll = take area.height (drop scroll lines)

-- "The answer carries the rows drawn, glyphs placed and clipped."
unfoldable pub rows_drawn : List Line → Rect → ℕ → ℕ
rows_drawn lines area scroll = length (lines_drawn lines area scroll)

-- sum of a count over lines
abbrev pub sum_of : (Line → ℕ) → List Line → ℕ
sum_of count [] = 0
sum_of count (line ∷ rest) = count line + sum_of count rest

unfoldable pub placed_on : List Line → Rect → ℕ → ℕ
placed_on lines area scroll = sum_of (placed_in area.width) (lines_drawn lines area scroll)

unfoldable pub clipped_on : List Line → Rect → ℕ → ℕ
clipped_on lines area scroll = sum_of (clipped_in area.width) (lines_drawn lines area scroll)
