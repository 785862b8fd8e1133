-- Document 01, 'Rows, pages, tally', and document 02, C-14: which glyphs of a composed line are zero-width, clipped and placed.
use Rattle.std.specs.Prelude.{ℕ, ◌+◌, Bool, true, false, cond, eqb, leb, ltb}
use Rattle.place.specs.declared.Place.{Place}
use Rattle.place.specs.declared.Place.TheVariants.{ZeroWidth, Placed, Halved, Outside}

-- The place of a glyph by the edge, its start and its width. The edge is the right edge of the text's area in drawing and the limit
-- in the tally. In this order:
-- "zero-width (emitted, wherever they start)";
-- "clipped (emitted, of width above 0, start at or past the limit)", and at or past the right edge: `Outside`;
-- C-14: "a glyph that starts inside and runs past the right edge is clipped": `Halved`;
-- "Placed are emitted glyphs of width above 0 that start below the limit": all others.
unfoldable pub place_of : ℕ → ℕ → ℕ → Place
place_of edge start width =
    cond (eqb width 0) ZeroWidth
    (cond (leb edge start) Outside
    (cond (ltb edge (start + width)) Halved Placed))

-- the counts that a glyph adds to, by its place
abbrev pub counts_as_placed : Place → Bool
counts_as_placed ZeroWidth = false
counts_as_placed Placed = true
counts_as_placed Halved = false
counts_as_placed Outside = false

-- C-14: a halved glyph "counts as clipped in drawing and tally"
abbrev pub counts_as_clipped : Place → Bool
counts_as_clipped ZeroWidth = false
counts_as_clipped Placed = false
counts_as_clipped Halved = true
counts_as_clipped Outside = true

-- the cells that a glyph takes on the screen, from its first on: a placed one as many as it is wide; a halved one its first alone, as
-- the blank symbol that it gets is one cell wide
abbrev pub cells_taken : Place → ℕ → ℕ
cells_taken ZeroWidth width = 0
cells_taken Placed width = width
cells_taken Halved width = 1
cells_taken Outside width = 0
