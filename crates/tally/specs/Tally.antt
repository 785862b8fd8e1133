-- Document 01, 'Rows, pages, tally': "the tally of a text at a limit".
use Rattle.std.specs.Prelude.{ℕ, cond, List, eqb, length}
use Rattle.text.specs.declared.Alignment.TheVariants.{Left}
use Rattle.text.specs.Lists.{count_of}
use Rattle.wrapping.specs.declared.Rule.{Rule}
use Rattle.line_composer.specs.declared.Method.TheVariants.{WordWrap}
use Rattle.line_composer.specs.Lines.{Line, lines, skipped, dropped}
use Rattle.line_composer.specs.Places.{starts, is_placed, is_clipped, is_zero_width}
use Rattle.tally.specs.declared.TallyCounts.{TallyCounts}

abbrev pub no_counts : TallyCounts
no_counts = record { lines = 0; placed = 0; clipped = 0; zero_width = 0; over_wide = 0; dropped = 0 }

-- the composed lines. A tally has no default alignment; left is taken, as none changes a count (`default-alignment_irrelevant` in proofs/).
abbrev pub composed : Rule → List ℕ → List Line
composed u text = lines u WordWrap Left text

-- "gives lines, placed, clipped (emitted, of width above 0, start at or past the limit), zero-width (emitted, wherever they
-- start), over-wide (skipped in step 1) and dropped (let go in step 2, step 3 or at the line's end); all 0 at limit 0"; C-14: a
-- glyph that starts below the limit and runs past it "counts as clipped in drawing and tally"
unfoldable pub tally_of : Rule → List ℕ → TallyCounts
tally_of u text =
    cond (eqb u.limit 0)
    no_counts
    (record {
      lines = length (composed u text);
      placed = count_of (is_placed u.limit) (starts (composed u text));
      clipped = count_of (is_clipped u.limit) (starts (composed u text));
      zero_width = count_of is_zero_width (starts (composed u text));
      over_wide = length (skipped u text);
      dropped = length (dropped u text);
    })
