-- Document 02, C-14, by computation: a glyph that starts inside and runs past the edge. T has three cells, S is a space of two.
use Prim.Native.Nat.{ℕ}
use Prim.Native.Char.{code}
use mathlib.Core.Path.{◌≡◌, refl}
use mathlib.Core.Bool.{Bool, true, false}
use mathlib.Core.List.{List, [], ◌∷◌, map}
use lib.ListN.{replicate}
use Rattle.text.specs.declared.Alignment.TheVariants.{Left}
use Rattle.text.specs.declared.AmbiguousWidth.{AmbiguousWidth}
use Rattle.text.specs.Record.{read_width}
use Rattle.cell.specs.Cell.{cell_from, blank_symbol, blank_cell, with_symbol, styled}
use Rattle.buffer.specs.Drawing.{drawn, inside}
use Rattle.block.proofs.Examples.{rect}
use Rattle.wrapping.specs.Rule.{rule_of}
use Rattle.wrapping.specs.Wrapping.{is_over_wide, must_join, takes_spaces, gathered, joined, unjoined, full, emptied, drops, appended, ◌then◌, join_step, emit_step, append_step, step, last_lines, wrap}
use Rattle.line_truncator.specs.Truncation.{offset_of, ends, swallows, truncate}
use Rattle.place.specs.Place.{place_of}
use Rattle.line_composer.specs.declared.Method.{Method}
use Rattle.line_composer.specs.declared.Method.TheVariants.{WordWrap, Truncate}
use Rattle.line_composer.specs.Lines.{Line, lines_of, line_lines, lines, skipped, dropped}
use Rattle.line_composer.specs.Places.{is_placed, is_clipped, is_zero_width}
use Rattle.render_glyphs.specs.RenderGlyphs.{glyph_cell, first_cell, glyph_on}
use Rattle.render_line.specs.RenderLine.{line_offset, drawn_starts, line_on}
use Rattle.render_lines.specs.Rows.{text_on}
use Rattle.tally.specs.Tally.{tally_of}
use Rattle.examples.specs.Notation.{text_of, glyphs, placed_of}

-- the symbols of four cells x after the lines of a text are drawn on the first three
abbrev pub over_x : AmbiguousWidth → Method → List ℕ → List ℕ
over_x a method text =
    map (λ (cell : ℕ). (cell_from cell).symbol)
    (drawn 4 (text_on (0 ∷ []) 0 (lines (rule_of a 3 true) method Left text) (rect 0 0 3 1) 0) (replicate 4 (with_symbol (code "x") blank_cell)))

-- "aT" in 3 columns: T's first cell is blank, and no other cell is changed. "aW" ends at the edge; the W of "abW" runs past it.
pub half_glyph : (a : AmbiguousWidth) →
    (over_x a WordWrap (text_of "aT") ≡ code "a" ∷ blank_symbol ∷ code "x" ∷ code "x" ∷ [])
    × (over_x a WordWrap (text_of "aW") ≡ code "a" ∷ code "W" ∷ code "x" ∷ code "x" ∷ [])
    × (over_x a WordWrap (text_of "abW") ≡ code "a" ∷ code "b" ∷ blank_symbol ∷ code "x" ∷ [])
unfolding read_width is_over_wide must_join takes_spaces gathered joined unjoined full emptied drops appended ◌then◌ join_step emit_step append_step step last_lines wrap lines_of line_lines lines place_of glyph_cell first_cell glyph_on line_offset drawn_starts line_on text_on drawn inside styled with_symbol
half_glyph a = (refl, refl, refl)

-- limit 3 "abW", and "abS" not trimmed: two placed and one clipped
pub half_counted : (a : AmbiguousWidth) (trim : Bool) →
    (tally_of (rule_of a 3 trim) (text_of "abW") ≡ record { lines = 1; placed = 2; clipped = 1; zero_width = 0; over_wide = 0; dropped = 0 })
    × (tally_of (rule_of a 3 false) (text_of "abS") ≡ record { lines = 1; placed = 2; clipped = 1; zero_width = 0; over_wide = 0; dropped = 0 })
unfolding read_width is_over_wide must_join takes_spaces gathered joined unjoined full emptied drops appended ◌then◌ join_step emit_step append_step step last_lines wrap lines_of line_lines lines skipped dropped place_of is_placed is_clipped is_zero_width tally_of
half_counted a true = (refl, refl)
half_counted a false = (refl, refl)

-- unwrapped, scrolled right by 1, limit 4, "Wabc": W is half swallowed, shown whole, and placed as a and b are
pub half_swallowed : (a : AmbiguousWidth) →
    (map (λ (line : Line). line.glyphs) (lines (rule_of a 4 true) (Truncate 1) Left (text_of "Wabc")) ≡ glyphs a 1 "Wab" ∷ [])
    × (placed_of 4 (glyphs a 1 "Wab") ≡ true ∷ true ∷ true ∷ [])
unfolding read_width is_over_wide offset_of ends swallows truncate lines_of line_lines lines place_of is_placed
half_swallowed a = (refl, refl)
