-- Not in the papers: demand 3 (pages: Reading) for a caller of `pages` that draws as many pages as the answer says, frame, then text, each
-- scrolled down by its index times the height of the answer's inner area, and reads that area.
use Rattle.std.specs.Prelude.{ℕ, ◌+◌, ◌*◌, ◌<◌, ◌≡◌, List, map, get_or}
use Rattle.text.specs.Line.{Glyph, glyphs_from}
use Rattle.nothing_lost.specs.Glyphs.{solids}
use Rattle.draw_notice.specs.Call.{Call}
use Rattle.draw_notice.specs.Pair.{pair_cells}
use Rattle.pages.specs.Pages.{call_at, placements}
use Rattle.pages.specs.Reading.{Seen, seen, each, look}
use Rattle.count_pages.specs.declared.PageCounts.{PageCounts}
use Rattle.count_pages.specs.Call.{answer_of, pages_answer_counts}

-- area and counts in the answer of the call
abbrev pub answered : Call → PageCounts
answered call = pages_answer_counts (answer_of call)

-- the scroll row of a page
abbrev pub scroll_by : PageCounts → ℕ → ℕ
scroll_by counts page = page * counts.inner.height

-- the symbols read on all pages, row by row, left to right
unfoldable pub read_by : Call → PageCounts → List Seen
read_by call counts =
    each 0 counts.pages (λ page.
    each counts.inner.y counts.inner.height (λ row.
    each counts.inner.x counts.inner.width (λ column.
    look page row column (get_or (pair_cells (call_at call (scroll_by counts page))) (row * call.columns + column) 0))))

-- Each scroll row fits in 16 bits, and the caller reads each non-whitespace glyph of the text once, in text order, in its place.
pub record CallerReadsAll (call : Call) : Type 0 where
  pub scrolls : (page : ℕ) → page < (answered call).pages → scroll_by (answered call) page < 65536
  pub symbols : map (λ (s : Seen). s.symbol) (read_by call (answered call)) ≡ map (λ (g : Glyph). g.symbol) (solids (glyphs_from call.notice.ambiguous 0 call.text))
  pub places : read_by call (answered call) ≡ map seen (placements call)
