-- Not in the papers: the checksum of a drawing's counts.
use Rattle.std.specs.Prelude.{ℕ}
use Rattle.render_lines.specs.declared.DrawCounts.{DrawCounts}
use Rattle.test_sums.specs.SumsExtra.{with_number}

-- the checksum of the rows drawn and the glyphs placed and clipped
unfoldable pub counts_sum : DrawCounts → ℕ
counts_sum counts = with_number (with_number (with_number 0 counts.rows) counts.placed) counts.clipped
