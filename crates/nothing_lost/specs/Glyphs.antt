-- Words that the theorems use: solid glyphs, the glyphs of all lines, bounds on widths.
use Rattle.std.specs.Prelude.{ℕ, ◌≤◌, cond, List, [], ◌∷◌, ◌++◌}
use Rattle.text.specs.Line.{Glyph, total}

-- the glyphs that aren't whitespace, in order
abbrev pub solids : List Glyph → List Glyph
solids [] = []
solids (g ∷ gs) = cond g.whitespace (solids gs) (g ∷ solids gs)

-- the glyphs of all lines, in order
abbrev pub glyphs_of_all : List (List Glyph) → List Glyph
glyphs_of_all [] = []
glyphs_of_all (line ∷ lines) = line ++ glyphs_of_all lines

-- every glyph's width is from `least` to `most`
pub data Widths (least most : ℕ) : List Glyph → Type 0 where
  none : Widths least most []
  one : {g : Glyph} {gs : List Glyph} → least ≤ g.width → g.width ≤ most → Widths least most gs → Widths least most (g ∷ gs)

-- no line is wider than `most`
pub data NoWider (most : ℕ) : List (List Glyph) → Type 0 where
  none : NoWider most []
  one : {line : List Glyph} {lines : List (List Glyph)} → total line ≤ most → NoWider most lines → NoWider most (line ∷ lines)
