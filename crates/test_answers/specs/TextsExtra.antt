-- Not in the papers: checksums of a tally's counts, of composed lines and of measures.
use Rattle.std.specs.Prelude.{ℕ, List, [], ◌∷◌, length}
use Rattle.text.specs.Alignment.{alignment_number}
use Rattle.line_composer.specs.declared.WrappedLine.{WrappedLine}
use Rattle.line_composer.specs.Lines.{Line, wrapped_line_of}
use Rattle.tally.specs.declared.TallyCounts.{TallyCounts}
use Rattle.test_sums.specs.SumsExtra.{with_number}

-- the checksum of a tally's six counts
unfoldable pub counts_sum : TallyCounts → ℕ
counts_sum counts =
    let lines = with_number 0 counts.lines in
    let placed = with_number lines counts.placed in
    let clipped = with_number placed counts.clipped in
    let zero-width = with_number clipped counts.zero_width in
    let over-wide = with_number zero-width counts.over_wide in
    with_number over-wide counts.dropped

-- a checksum extended by a composed line
unfoldable pub with_line : ℕ → WrappedLine → ℕ
with_line sum line =
    let first = with_number sum line.first in
    let end = with_number first line.end in
    let width = with_number end line.width in
    with_number width (alignment_number line.alignment)

-- a checksum extended by each composed line of a list
abbrev pub with_lines : ℕ → List Line → ℕ
with_lines sum [] = sum
with_lines sum (line ∷ lines) = with_lines (with_line sum (wrapped_line_of line)) lines

-- the checksum of composed lines: of each, then of their count
unfoldable pub lines_sum : List Line → ℕ
lines_sum lines = with_number (with_lines 0 lines) (length lines)

-- the checksum of a text's rows, wrapped and unwrapped, and its columns
abbrev pub measures_sum : ℕ → ℕ → ℕ → ℕ
measures_sum wrapped unwrapped columns = with_number (with_number (with_number 0 wrapped) unwrapped) columns
