-- Document 01, 'Rows, pages, tally': "Demand 3's pages" and the place of each glyph on them. A notice is given with its screen, and
-- so is each of its pages, which its two calls draw (draw_notice: Pair).
use Rattle.std.specs.Prelude.{ℕ, suc, ◌+◌, ◌-◌, ◌*◌, ◌/◌, cond, not, ◌&&◌, List, [], ◌∷◌, ◌++◌, map, length, replicate}
use Rattle.text.specs.Line.{Glyph, Start}
use Rattle.cell.specs.Cell.{blank_cell}
use Rattle.layout.specs.declared.Rect.{Rect}
use Rattle.line_composer.specs.Lines.{Line}
use Rattle.line_composer.specs.Places.{is_placed}
use Rattle.render_line.specs.RenderLine.{drawn_starts}
use Rattle.paragraph.specs.declared.Notice.{Notice}
use Rattle.paragraph.specs.Notice.{settings_of, notice_lines, inner_area_of}
use Rattle.draw_notice.specs.Call.{Call, screen_in}

-- the same notice, scrolled to another row: "Their drawings differ in the scroll row alone"
abbrev pub scrolled_to : ℕ → Notice → Notice
scrolled_to scroll n =
    record {
      block = n.block;
      style = n.style;
      text_style = n.text_style;
      alignment = n.alignment;
      wrap = n.wrap;
      scroll = scroll;
      ambiguous = n.ambiguous;
    }

-- "each starts on blank cells"
abbrev pub blank_cells : Call → List ℕ
blank_cells i = replicate (i.columns * i.rows) blank_cell

-- the notice on blank cells, from a scroll row on
abbrev pub call_at : Call → ℕ → Call
call_at i scroll =
    record {
      columns = i.columns;
      rows = i.rows;
      cells = blank_cells i;
      styles = i.styles;
      text = i.text;
      titles = i.titles;
      area = i.area;
      notice = scrolled_to scroll i.notice;
    }

-- the inner area, and the "lines, composed with the inner width as the limit"
unfoldable pub inner_area : Call → Rect
inner_area i = inner_area_of (screen_in i) i.titles i.notice.block i.area

unfoldable pub composed_lines : Call → List Line
composed_lines i = notice_lines (settings_of i.notice) i.text (inner_area i).width

-- "n lines … make n / h pages at inner height h, rounded up"
abbrev pub page_count : ℕ → ℕ → ℕ
page_count n h = (n + (h - 1)) / h

unfoldable pub pages_of : Call → ℕ
pages_of i = page_count (length (composed_lines i)) (inner_area i).height

-- "page p scrolled down p times the inner height"
abbrev pub scroll_of : Call → ℕ → ℕ
scroll_of i page = page * (inner_area i).height

-- a page
abbrev pub page_call : Call → ℕ → Call
page_call i page = call_at i (scroll_of i page)

-- "Line i, from 0, is on page i / h, rounded down, in the inner area's row i less page × h. A glyph's column is the inner area's
-- left edge plus its start as drawn." Row and column are those of the screen.
pub record Placement : Type 0 where
  pub page : ℕ
  pub row : ℕ
  pub column : ℕ
  pub glyph : Glyph

unfoldable pub placement_of : Rect → ℕ → Start → Placement
placement_of inner number s =
    let page = number / inner.height in
    record {
      page = page;
      row = inner.y + (number - page * inner.height);
      column = inner.x + s.start;
      glyph = s.glyph;
    }

-- the non-whitespace glyphs of a line that are placed, at a width
abbrev pub solid_placed : ℕ → List Start → List Start
solid_placed width [] = []
solid_placed width (s ∷ rest) = cond (is_placed width s && not s.glyph.whitespace) (s ∷ solid_placed width rest) (solid_placed width rest)

-- the placements of lines, the first of which has index `number`
abbrev pub placements_from : Rect → ℕ → List Line → List Placement
placements_from inner number [] = []
placements_from inner number (line ∷ rest) =
    map (placement_of inner number) (solid_placed inner.width (drawn_starts inner.width line)) ++ placements_from inner (suc number) rest

unfoldable pub placements : Call → List Placement
placements i = placements_from (inner_area i) 0 (composed_lines i)
