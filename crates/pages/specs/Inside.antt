-- Document 02, C-14: "a glyph that starts inside and runs past the right edge is clipped". So every placed glyph's cells, first to
-- last, lie inside the text's area, and where a notice is drawn no glyph of its text takes a cell outside the inner area.
use Rattle.std.specs.Prelude.{ℕ, ◌+◌, ◌<◌, ◌≡◌, true, false}
use Rattle.text.specs.Line.{Start}
use Rattle.layout.specs.declared.Rect.{Rect}
use Rattle.layout.specs.Rect.{is_empty, contains}
use Rattle.place.specs.Place.{cells_taken}
use Rattle.line_composer.specs.Places.{place_in, is_placed}
use Rattle.draw_notice.specs.Call.{Call}
use Rattle.draw_notice.specs.Pair.{BothAccepted}
use Rattle.pages.specs.Pages.{inner_area}

-- an accepted notice, wrapped or not, with an inner area of one cell or more
pub record DrawnNotice (i : Call) : Type 0 where
  pub accepted : BothAccepted i
  pub some_cell : is_empty (inner_area i) ≡ false

-- Of an area that a text is laid into: for every glyph, wherever it starts as drawn, on every row of the area, counted from 0: `k` columns
-- right of its first cell is a cell of the area, for each cell of a placed glyph, and for each cell that a glyph takes, placed or halved.
pub record TextInside (area : Rect) : Type 0 where
  pub placed_inside : (s : Start) (row k : ℕ) → row < area.height → is_placed area.width s ≡ true → k < s.glyph.width
      → contains area (area.x + s.start + k) (area.y + row) ≡ true
  pub taken_inside : (s : Start) (row k : ℕ) → row < area.height → k < cells_taken (place_in area.width s) s.glyph.width
      → contains area (area.x + s.start + k) (area.y + row) ≡ true
