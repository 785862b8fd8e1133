-- Document 01, 'Rows, pages, tally (paragraph.rs)', and document 02, C-14: the glyphs of a composed line.
use Rattle.std.specs.Prelude.{ℕ, cond, List, [], ◌∷◌, eqb}
use Rattle.text.specs.Line.{Start}
use Rattle.cell.specs.Cell.{blank_symbol, with_symbol, styled}
use Rattle.buffer.specs.Drawing.{style_at}
use Rattle.place.specs.declared.Place.{Place}
use Rattle.place.specs.declared.Place.TheVariants.{ZeroWidth, Placed, Halved, Outside}
use Rattle.line_composer.specs.Places.{place_in}

-- a cell that "gets the symbol, then the text style, then the glyph's own style"
unfoldable pub glyph_cell : List ℕ → ℕ → ℕ → ℕ → ℕ → ℕ
glyph_cell styles textStyle symbol style cell = styled (style_at styles style) (styled (style_at styles textStyle) (with_symbol symbol cell))

-- The first cell of a glyph after it is drawn, by its place: "For each glyph of width above 0 its first cell gets the symbol, then
-- the text style, then the glyph's own style"; C-14: if it "starts inside and runs past the right edge", "its first cell gets the
-- blank symbol, then the text style and the glyph's own as before"; "such a glyph starting at or past the right edge isn't drawn".
unfoldable pub first_cell : List ℕ → ℕ → Place → ℕ → ℕ → ℕ → ℕ
first_cell styles textStyle ZeroWidth symbol style cell = cell
first_cell styles textStyle Placed symbol style cell = glyph_cell styles textStyle symbol style cell
first_cell styles textStyle Halved symbol style cell = glyph_cell styles textStyle blank_symbol style cell
first_cell styles textStyle Outside symbol style cell = cell

-- the cell in a column of the area after a glyph is drawn
unfoldable pub glyph_on : List ℕ → ℕ → ℕ → Start → ℕ → ℕ → ℕ
glyph_on styles textStyle area s column cell =
    cond (eqb column s.start)
    (first_cell styles textStyle (place_in area s) s.glyph.symbol s.glyph.style cell)
    cell

-- the same, after all the glyphs are drawn in turn
abbrev pub glyphs_on : List ℕ → ℕ → ℕ → List Start → ℕ → ℕ → ℕ
glyphs_on styles textStyle area [] column cell = cell
glyphs_on styles textStyle area (s ∷ ss) column cell = glyphs_on styles textStyle area ss column (glyph_on styles textStyle area s column cell)
