-- Document 01, 'Rows, pages, tally', and document 02, C-14: where the glyphs of a composed line start, and which are placed, clipped
-- or zero-width.
use Rattle.std.specs.Prelude.{ℕ, Bool, List, [], ◌∷◌, ◌++◌, eqb}
use Rattle.text.specs.Line.{Start, starts_from}
use Rattle.place.specs.declared.Place.{Place}
use Rattle.place.specs.Place.{place_of, counts_as_placed, counts_as_clipped}
use Rattle.line_composer.specs.Lines.{Line}

-- "In a composed line a glyph starts at the sum of the widths of its line's glyphs before it": `starts_from`, in crate `text`.

-- the glyphs of composed lines, each with its start in its line
abbrev pub starts : List Line → List Start
starts [] = []
starts (line ∷ rest) = starts_from 0 line.glyphs ++ starts rest

-- the place of a glyph at an edge, by where it starts
abbrev pub place_in : ℕ → Start → Place
place_in edge s = place_of edge s.start s.glyph.width

-- "Placed are emitted glyphs of width above 0 that start below the limit", or left of the right edge; C-14: and don't run past it
unfoldable pub is_placed : ℕ → Start → Bool
is_placed edge s = counts_as_placed (place_in edge s)

-- "clipped (emitted, of width above 0, start at or past the limit)", or at or past the right edge; C-14: "a glyph that starts inside
-- and runs past the right edge is clipped"
unfoldable pub is_clipped : ℕ → Start → Bool
is_clipped edge s = counts_as_clipped (place_in edge s)

-- "zero-width (emitted, wherever they start)"
unfoldable pub is_zero_width : Start → Bool
is_zero_width s = eqb s.glyph.width 0
