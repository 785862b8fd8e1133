-- Not in the papers: intermediate results of the functions that count composed lines; `Tally` of crate `tally` has the rules.
use Rattle.std.specs.Prelude.{ℕ, ◌+◌, List, length}
use Rattle.text.specs.Lists.{count_of}
use Rattle.place.specs.declared.Place.{Place}
use Rattle.place.specs.declared.Place.TheVariants.{ZeroWidth, Placed, Halved, Outside}
use Rattle.line_composer.specs.Lines.{Line}
use Rattle.line_composer.specs.Places.{starts, is_placed, is_clipped, is_zero_width}
use Rattle.tally_lines.specs.declared.LineCounts.{LineCounts}

-- the counts of n lines without a glyph
abbrev pub empty_lines : ℕ → LineCounts
empty_lines n = record { lines = n; placed = 0; clipped = 0; zero_width = 0 }

-- the counts with one more glyph, by its place
unfoldable pub with_glyph : LineCounts → Place → LineCounts
with_glyph c ZeroWidth = record { lines = c.lines; placed = c.placed; clipped = c.clipped; zero_width = c.zero_width + 1 }
with_glyph c Placed = record { lines = c.lines; placed = c.placed + 1; clipped = c.clipped; zero_width = c.zero_width }
with_glyph c Halved = record { lines = c.lines; placed = c.placed; clipped = c.clipped + 1; zero_width = c.zero_width }
with_glyph c Outside = record { lines = c.lines; placed = c.placed; clipped = c.clipped + 1; zero_width = c.zero_width }

unfoldable pub sum : LineCounts → LineCounts → LineCounts
sum a b =
    record {
      lines = a.lines + b.lines;
      placed = a.placed + b.placed;
      clipped = a.clipped + b.clipped;
      zero_width = a.zero_width + b.zero_width;
    }

-- the counts of composed lines
unfoldable pub line_counts : ℕ → List Line → LineCounts
line_counts limit lines =
    record {
      lines = length lines;
      placed = count_of (is_placed limit) (starts lines);
      clipped = count_of (is_clipped limit) (starts lines);
      zero_width = count_of is_zero_width (starts lines);
    }
