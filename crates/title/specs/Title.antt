-- Document 01, 'Inner area and frame (block.rs, padding.rs)': one title in its area.
use Rattle.std.specs.Prelude.{ℕ, ◌+◌, ◌-◌, List, [], ◌∷◌}
use Rattle.num.specs.Held.{held}
use Rattle.text.specs.declared.Alignment.{Alignment}
use Rattle.text.specs.declared.Alignment.TheVariants.{Left, Center, Right}
use Rattle.text.specs.Line.{Glyph, total, starts_from}
use Rattle.cell.specs.Cell.{styled}
use Rattle.layout.specs.declared.Rect.{Rect}
use Rattle.buffer.specs.Drawing.{Drawing, over, inside, in_order, style_at}
use Rattle.title_glyphs.specs.TitleGlyphs.{until_overrun, title_glyphs_on}

-- `line_width_u16`: the width of a title line, saturating at 65,535
unfoldable pub title_line_width : List Glyph → ℕ
title_line_width glyphs = held (total glyphs)

-- "A title line of width t in w columns: t ≤ w starts at 0, w - t if right"
abbrev pub line_start : Alignment → ℕ → ℕ → ℕ
line_start Left t w = 0
line_start Center t w = 0
line_start Right t w = w - t

-- "t > w hides the first t - w columns if right, else none."
abbrev pub hidden_columns : Alignment → ℕ → ℕ → ℕ
hidden_columns Left t w = 0
hidden_columns Center t w = 0
hidden_columns Right t w = t - w

-- a title line in w columns, as a function from a column and its cell to the new cell; `TitleGlyphs` has the glyphs' part
unfoldable pub title_line : List ℕ → Alignment → ℕ → List Glyph → ℕ → ℕ → ℕ
title_line styles alignment w glyphs =
    let t = title_line_width glyphs in
    let hidden = hidden_columns alignment t w in
    title_glyphs_on styles hidden (until_overrun (hidden + w) (starts_from (line_start alignment t w) glyphs))

-- a title in its area, which is one row high: "A title's area gets the titles style, then each drawn glyph its symbol and style
-- in its first cell."
unfoldable pub title_in : List ℕ → ℕ → Rect → Alignment → List Glyph → Drawing
title_in styles style area alignment glyphs =
    in_order
    (over area (styled (style_at styles style))
    ∷ inside area (λ column row. title_line styles alignment area.width glyphs column)
    ∷ [])
