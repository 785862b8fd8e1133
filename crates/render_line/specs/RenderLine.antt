-- Document 01, 'Rows, pages, tally (paragraph.rs)': one composed line on a row of the area.
use Rattle.std.specs.Prelude.{ℕ, ◌-◌, ◌/◌, List}
use Rattle.text.specs.declared.Alignment.{Alignment}
use Rattle.text.specs.declared.Alignment.TheVariants.{Left, Center, Right}
use Rattle.text.specs.Line.{Start, total, starts_from}
use Rattle.text.specs.Lists.{count_of}
use Rattle.line_composer.specs.Lines.{Line}
use Rattle.line_composer.specs.Places.{is_placed, is_clipped}
use Rattle.render_glyphs.specs.RenderGlyphs.{glyphs_on}

-- "Start column: `get_line_offset`, centre being half the area less half the line, each half rounded down": for the
-- widths of area and line
unfoldable pub line_offset : Alignment → ℕ → ℕ → ℕ
line_offset Left area line = 0
line_offset Center area line = area / 2 - line / 2
line_offset Right area line = area - line

-- the glyphs of a line, each with its start as drawn: "drawing adds the start column"
unfoldable pub drawn_starts : ℕ → Line → List Start
drawn_starts area line = starts_from (line_offset line.alignment area (total line.glyphs)) line.glyphs

-- the cell in a column of the area after the glyphs of a line are drawn in turn
unfoldable pub line_on : List ℕ → ℕ → ℕ → Line → ℕ → ℕ → ℕ
line_on styles textStyle area line = glyphs_on styles textStyle area (drawn_starts area line)

-- number of glyphs of a line that are placed, and clipped
unfoldable pub placed_in : ℕ → Line → ℕ
placed_in area line = count_of (is_placed area) (drawn_starts area line)

unfoldable pub clipped_in : ℕ → Line → ℕ
clipped_in area line = count_of (is_clipped area) (drawn_starts area line)
