-- Not in the papers: results of the functions, on a line's records and the cells from its start column on; `RenderGlyphs` has the
-- rules.
use Rattle.std.specs.Prelude.{ℕ, ◌+◌, ◌≡◌, Bool, true, false, cond, List, length, get_or, set}
use Rattle.text.specs.Record.{symbol_of, style_of}
use Rattle.text.specs.Line.{Start, numbered, starts_from}
use Rattle.text.specs.Lists.{count_of}
use Rattle.wrapping.specs.declared.Rule.{Rule}
use Rattle.wrapping.specs.Wrapping.{not_over_wide}
use Rattle.cell.specs.Cell.{blank_symbol, with_symbol, styled}
use Rattle.buffer.specs.Drawing.{changed, style_at}
use Rattle.place.specs.declared.Place.{Place}
use Rattle.place.specs.declared.Place.TheVariants.{ZeroWidth, Placed, Halved, Outside}
use Rattle.line_composer.specs.Places.{is_placed, is_clipped}
use Rattle.render_glyphs.specs.declared.GlyphCounts.{GlyphCounts}
use Rattle.render_glyphs.specs.RenderGlyphs.{glyphs_on}

-- whether a glyph is written, and which symbol for its own, by its place
abbrev pub is_written : Place → Bool
is_written ZeroWidth = false
is_written Placed = true
is_written Halved = true
is_written Outside = false

abbrev pub symbol_written : Place → ℕ → ℕ
symbol_written ZeroWidth symbol = symbol
symbol_written Placed symbol = symbol
symbol_written Halved symbol = blank_symbol
symbol_written Outside symbol = symbol

-- a cell with a symbol, then the text style, which the row looks up once, then the style with the number given
unfoldable pub cell_with : List ℕ → ℕ → ℕ → ℕ → ℕ → ℕ
cell_with styles textStyle symbol style cell = styled (style_at styles style) (styled textStyle (with_symbol symbol cell))

-- a glyph's record written on a row, in its column and by its place; no width is read
abbrev pub written_at : List ℕ → ℕ → Place → ℕ → ℕ → List ℕ → List ℕ
written_at styles textStyle place column word row =
    cond (is_written place)
    (set row column (cell_with styles textStyle (symbol_written place (symbol_of word)) (style_of word) (get_or row column 0)))
    row

-- the counts with one more glyph, by its place
unfoldable pub with_place : GlyphCounts → Place → GlyphCounts
with_place c ZeroWidth = c
with_place c Placed = record { placed = c.placed + 1; clipped = c.clipped }
with_place c Halved = record { placed = c.placed; clipped = c.clipped + 1 }
with_place c Outside = record { placed = c.placed; clipped = c.clipped + 1 }

-- the glyphs of a line's records, the first starting in the given column; record numbers are unused here
abbrev pub starts_of : Rule → ℕ → List ℕ → List Start
starts_of u column records = starts_from column (not_over_wide u (numbered u.ambiguous 0 records))

-- result of writing glyphs on a row: the cells after it, and the counts of glyphs placed and clipped
pub record Wrote (styles : List ℕ) (textStyle : ℕ) (starts : List Start) (row after : List ℕ) (counts : GlyphCounts) : Type 0 where
  pub cells : after ≡ changed (glyphs_on styles textStyle (length row) starts) row
  pub is-placed : counts.placed ≡ count_of (is_placed (length row)) starts
  pub is-clipped : counts.clipped ≡ count_of (is_clipped (length row)) starts
