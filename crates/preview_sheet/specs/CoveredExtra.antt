-- Not in the papers: C-14 as `preview` shows it: no symbol of a notice's text covers a cell outside the inner area.
use Rattle.std.specs.Prelude.{ℕ, ◌+◌, ◌*◌, ◌%◌, ◌^◌, ◌<◌, ◌≡◌, true, List, map, get_or, replicate}
use Rattle.cell.specs.Cell.{cell_from, blank_cell, with_symbol}
use Rattle.layout.specs.declared.Rect.{Rect}
use Rattle.layout.specs.Rect.{contains}
use Rattle.draw_notice.specs.Call.{Call}
use Rattle.draw_notice.specs.Pair.{pair_cells}
use Rattle.flat.specs.FlatExtra.{ambiguous_named}
use Rattle.preview_file.specs.declared.Opening.{Opening}
use Rattle.preview_sheet.specs.WidthsExtra.{widened}
use Rattle.preview_sheet.specs.SheetExtra.{call_at, widened_opening}

-- a page with widths as symbols, on cells with the symbol 1, the width of a blank
abbrev pub wide_page : Opening → ℕ → List ℕ → List ℕ → List ℕ → Call
wide_page o first styles titles text =
    let ambiguous = ambiguous_named o.text.ambiguous in
    call_at (widened_opening o) first styles (map (widened ambiguous) titles) (map (widened ambiguous) text)
    (replicate (o.columns * o.rows) (with_symbol 1 blank_cell))

-- the width in a cell of the page; it is 0 in the cell of a halved glyph, which holds the blank symbol, 32, and covers no other cell
abbrev pub width_at : Call → ℕ → ℕ → ℕ
width_at page row column = (cell_from (get_or (pair_cells page) (row * page.columns + column) 0)).symbol % 2 ^ 3

-- the cells that the symbol of a cell of the area takes, itself and those right of it, are in the area
pub record FrameUncovered (inner : Rect) (page : Call) : Type 0 where
  pub covered_inside : (row column k : ℕ) → contains inner column row ≡ true → k < width_at page row column → contains inner (column + k) row ≡ true
