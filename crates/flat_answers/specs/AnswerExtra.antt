-- Not in the papers: the calls' answers as flat structs, for C programs. A refused call returns its number and zeros, as in
-- document 01's table; a call with a setting whose number names no case returns 255 and zeros.
use Rattle.std.specs.Prelude.{ℕ, Result}
use Rattle.layout.specs.declared.Rect.{Rect}
use Rattle.refuse.specs.declared.Refusal.{Refusal}
use Rattle.refuse.specs.Refusal.{verdict_number}
use Rattle.inner.specs.Call.{inner_answer_rect}
use Rattle.list_lines.specs.Call.{list_answer_count}
use Rattle.tally.specs.declared.TallyCounts.{TallyCounts}
use Rattle.tally.specs.Call.{tally_answer_counts}
use Rattle.measure.specs.Answers.{measure_answer_value}
use Rattle.render_lines.specs.declared.DrawCounts.{DrawCounts}
use Rattle.draw_text.specs.Call.{draw_answer_counts}
use Rattle.count_pages.specs.declared.PageCounts.{PageCounts}
use Rattle.count_pages.specs.Call.{pages_answer_counts}
use Rattle.flat_answers.specs.declared.FlatListAnswer.{FlatListAnswer}
use Rattle.flat_answers.specs.declared.FlatTallyAnswer.{FlatTallyAnswer}
use Rattle.flat_answers.specs.declared.FlatAreaAnswer.{FlatAreaAnswer}
use Rattle.flat_answers.specs.declared.FlatDrawAnswer.{FlatDrawAnswer}
use Rattle.flat_answers.specs.declared.FlatMeasureAnswer.{FlatMeasureAnswer}
use Rattle.flat_answers.specs.declared.FlatPagesAnswer.{FlatPagesAnswer}

-- number returned for a setting whose number names no case
abbrev pub unknown_number : ℕ
unknown_number = 255

-- each answer as a flat struct
unfoldable pub list_flat : Result ℕ Refusal → FlatListAnswer
list_flat answer = record { lines = list_answer_count answer; number = verdict_number answer }

unfoldable pub tally_flat : Result TallyCounts Refusal → FlatTallyAnswer
tally_flat answer =
    let c : TallyCounts = tally_answer_counts answer in
    record {
      number = verdict_number answer;
      lines = c.lines;
      placed = c.placed;
      clipped = c.clipped;
      zero_width = c.zero_width;
      over_wide = c.over_wide;
      dropped = c.dropped;
    }

unfoldable pub area_flat : Result Rect Refusal → FlatAreaAnswer
area_flat answer =
    let r : Rect = inner_answer_rect answer in
    record { number = verdict_number answer; x = r.x; y = r.y; width = r.width; height = r.height }

unfoldable pub draw_flat : Result DrawCounts Refusal → FlatDrawAnswer
draw_flat answer =
    let r : DrawCounts = draw_answer_counts answer in
    record { number = verdict_number answer; rows = r.rows; placed = r.placed; clipped = r.clipped }

unfoldable pub measure_flat : Result ℕ Refusal → FlatMeasureAnswer
measure_flat answer = record { number = verdict_number answer; value = measure_answer_value answer }

unfoldable pub pages_flat : Result PageCounts Refusal → FlatPagesAnswer
pages_flat answer =
    let c : PageCounts = pages_answer_counts answer in
    record {
      number = verdict_number answer;
      x = c.inner.x;
      y = c.inner.y;
      width = c.inner.width;
      height = c.inner.height;
      lines = c.lines;
      pages = c.pages;
    }

-- the answers to a setting whose number names no case
abbrev pub list_unknown : FlatListAnswer
list_unknown = record { lines = 0; number = unknown_number }

abbrev pub tally_unknown : FlatTallyAnswer
tally_unknown =
    record { number = unknown_number; lines = 0; placed = 0; clipped = 0; zero_width = 0; over_wide = 0; dropped = 0 }

abbrev pub area_unknown : FlatAreaAnswer
area_unknown = record { number = unknown_number; x = 0; y = 0; width = 0; height = 0 }

abbrev pub draw_unknown : FlatDrawAnswer
draw_unknown = record { number = unknown_number; rows = 0; placed = 0; clipped = 0 }

abbrev pub measure_unknown : FlatMeasureAnswer
measure_unknown = record { number = unknown_number; value = 0 }

abbrev pub pages_unknown : FlatPagesAnswer
pages_unknown = record { number = unknown_number; x = 0; y = 0; width = 0; height = 0; lines = 0; pages = 0 }
