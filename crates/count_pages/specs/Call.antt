-- Document 01, 'Rows, pages, tally': the answer of the call `pages`.
use Rattle.std.specs.Prelude.{cond, length, Result, Ok, Err}
use Rattle.layout.specs.Rect.{is_empty}
use Rattle.refuse.specs.declared.Refusal.{Refusal}
use Rattle.refuse.specs.Refusal.{answering, unless_refused}
use Rattle.draw_notice.specs.Call.{Call, verdict_of}
use Rattle.pages.specs.Pages.{inner_area, composed_lines, pages_of}
use Rattle.count_pages.specs.declared.PageCounts.{PageCounts}

-- The inputs are a notice and its screen. "inner area of the met area"; "n lines, composed with the inner width as the
-- limit, make n / h pages at inner height h, rounded up"; "An empty inner area gets no line, and the counts are 0".
unfoldable pub pages_in : Call → PageCounts
pages_in call =
    let inner = inner_area call in
    cond (is_empty inner)
    (record { inner = inner; lines = 0; pages = 0 })
    (record { inner = inner; lines = length (composed_lines call); pages = pages_of call })

-- the answer: the area and counts, or the cause of refusal, which is that of the notice drawn whole
unfoldable pub answer_of : Call → Result PageCounts Refusal
answer_of call = answering (verdict_of call) (pages_in call)

-- area and counts of a refused call: zeros
abbrev pub no_page_counts : PageCounts
no_page_counts = record { inner = record { x = 0; y = 0; width = 0; height = 0 }; lines = 0; pages = 0 }

unfoldable pub counts_of : Call → PageCounts
counts_of call = unless_refused (verdict_of call) (pages_in call) no_page_counts

-- area and counts of an answer
abbrev pub pages_answer_counts : Result PageCounts Refusal → PageCounts
pages_answer_counts (Ok counts) = counts
pages_answer_counts (Err why) = no_page_counts
