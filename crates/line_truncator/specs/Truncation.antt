-- Document 01, 'After the pages', `LineTruncator`: the line of one unwrapped text line.
use Rattle.std.specs.Prelude.{ℕ, ◌+◌, ◌-◌, Bool, cond, ◌&&◌, List, [], ◌∷◌, eqb, leb, ltb}
use Rattle.text.specs.declared.Alignment.{Alignment}
use Rattle.text.specs.declared.Alignment.TheVariants.{Left, Center, Right}
use Rattle.text.specs.Line.{Glyph}
use Rattle.wrapping.specs.declared.Rule.{Rule}
use Rattle.wrapping.specs.Wrapping.{is_over_wide}

-- "Left lines only": the offset of a line if the notice is scrolled right by `column`
unfoldable pub offset_of : ℕ → Alignment → ℕ
offset_of column Left = column
offset_of column Center = 0
offset_of column Right = 0

-- "the line ends before the first glyph whose width, added to the width shown so far, passes the limit"
unfoldable pub ends : Rule → ℕ → Glyph → Bool
ends u shown g = ltb u.limit (shown + g.width)

-- "the offset swallows glyphs up to its size". A glyph of width 0 is swallowed while any offset remains, as in
-- `LineTruncator::next_line`.
unfoldable pub swallows : ℕ → Glyph → Bool
swallows offset g = ltb 0 offset && leb g.width offset

-- the glyphs shown, given the remaining offset and the width shown so far: "over-wide glyphs are skipped"; "a swallowed glyph
-- shows 0 cells and isn't counted"; "a wide one half swallowed is shown whole and ends it": no offset remains then
abbrev pub shown_from : Rule → ℕ → ℕ → List Glyph → List Glyph
shown_from u offset shown [] = []
shown_from u offset shown (g ∷ gs) =
    cond (is_over_wide u g) (shown_from u offset shown gs)
    (cond (ends u shown g) []
    (cond (swallows offset g) (shown_from u (offset - g.width) shown gs)
    (g ∷ shown_from u 0 (shown + g.width) gs)))

-- the line of a text line. Limit 0 gives no line, as in wrapping. If all glyphs are swallowed, the line is empty.
unfoldable pub truncate : Rule → ℕ → Alignment → List Glyph → List (List Glyph)
truncate u column alignment gs = cond (eqb u.limit 0) [] (shown_from u (offset_of column alignment) 0 gs ∷ [])
