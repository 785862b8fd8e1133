-- Document 01, 'Inner area and frame (block.rs, padding.rs)': the glyphs of a title line.
use Rattle.std.specs.Prelude.{ℕ, ◌+◌, Bool, cond, ◌&&◌, List, [], ◌∷◌, eqb, leb, ltb}
use Rattle.text.specs.declared.AmbiguousWidth.{AmbiguousWidth}
use Rattle.text.specs.Line.{Glyph, Start, numbered}
use Rattle.cell.specs.Cell.{with_symbol, styled}
use Rattle.buffer.specs.Drawing.{style_at}

-- the glyphs of a title's records, read as set and numbered from 0; drawing doesn't read the numbers
abbrev pub glyphs_of_title : AmbiguousWidth → List ℕ → List Glyph
glyphs_of_title ambiguous records = numbered ambiguous 0 records

-- "drawing stops at the first that overruns w": the glyphs before the first that ends after `end`
abbrev pub until_overrun : ℕ → List Start → List Start
until_overrun end [] = []
until_overrun end (s ∷ ss) = cond (ltb end (s.start + s.glyph.width)) [] (s ∷ until_overrun end ss)

-- "Glyphs starting in hidden columns or of width 0 aren't drawn"; asked of the glyphs before the first that overruns
unfoldable pub is_drawn : ℕ → Start → Bool
is_drawn hidden s = leb hidden s.start && ltb 0 s.glyph.width

-- each drawn glyph gets "its symbol and style in its first cell": the new cell in a column, counted after the hidden ones
unfoldable pub title_glyph_on : List ℕ → ℕ → Start → ℕ → ℕ → ℕ
title_glyph_on styles hidden s column cell =
    cond (is_drawn hidden s && eqb (hidden + column) s.start)
    (styled (style_at styles s.glyph.style) (with_symbol s.glyph.symbol cell))
    cell

abbrev pub title_glyphs_on : List ℕ → ℕ → List Start → ℕ → ℕ → ℕ
title_glyphs_on styles hidden [] column cell = cell
title_glyphs_on styles hidden (s ∷ ss) column cell = title_glyphs_on styles hidden ss column (title_glyph_on styles hidden s column cell)
