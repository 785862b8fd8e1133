-- A cell of the inner area of a drawn notice: the line's glyphs drawn on a cell that keeps its symbol, since the paragraph style
-- keeps all symbols and the frame keeps those of the inner area. On a page of a wrapped notice that is the blank symbol.
use Prim.Native.Nat.{ℕ, ◌+◌, ◌-◌, ◌*◌, ◌<◌}
use mathlib.Core.Path.{◌≡◌, ◌∙◌}
use mathlib.Core.Bool.{true, false}
use mathlib.Core.List.{List, [], ◌∷◌}
use native.Mathlib.Omega.{arith}
use lib.ListN.{length, get_or, length-replicate, get_or-replicate}
use Rattle.cell.specs.Cell.{cell_from, blank_symbol, blank_cell, styled}
use Rattle.layout.specs.Rect.{right_of, is_empty, contains}
use Rattle.buffer.specs.Drawing.{Drawing, over, in_order, style_at}
use Rattle.buffer.specs.PartsExtra.{AreaOnScreen}
use Rattle.buffer.proofs.Drawn.{drawn-at}
use Rattle.buffer.proofs.Over.{inside-there}
use Rattle.buffer.proofs.Rows.{row_fits}
use Rattle.titles.specs.Titles.{titles_from}
use Rattle.render_block.specs.Frame.{frame, block_of}
use Rattle.render_block.proofs.KeepsSymbols.{KeepsSymbol, order_keeps, style_keeps, inside_between}
use Rattle.render_block.proofs.Keeps.{block_keeps}
use Rattle.line_composer.specs.Lines.{Line}
use Rattle.render_line.specs.RenderLine.{line_on}
use Rattle.render_lines.specs.Rows.{no_composed_line, text_on}
use Rattle.paragraph.specs.Notice.{notice_lines, inner_area_of, inside_of, notice_of}
use Rattle.draw_notice.specs.Call.{Call, screen_in, drawing_of, cells_after}
use Rattle.draw_notice.specs.Pair.{pair_cells}
use Rattle.draw_notice.proofs.Pair.{accepted-whole, same_as_combined}
use Rattle.pages.specs.Pages.{call_at, inner_area, composed_lines}
use Rattle.pages.specs.Reading.{WrappedNotice}
use Rattle.pages.specs.Inside.{DrawnNotice}
use Rattle.pages.proofs.Screen.{met, some-met, drawn-met, drawn-there, inner_has, is-drawn, page-drawn}

-- the drawings of a notice before its lines
abbrev before_lines : Call → List Drawing
before_lines i =
    over (met i) (styled (style_at i.styles i.notice.style))
    ∷ frame i.styles (screen_in i) (titles_from i.notice.ambiguous i.titles) i.notice.block (met i)
    ∷ over (inner_area i) (styled (style_at i.styles i.notice.style))
    ∷ []

unfoldable pub under_lines : Call → Drawing
under_lines i = in_order (before_lines i)

-- a blank cell after these drawings; row and column are counted from the inner area's first
unfoldable pub cell_before : Call → ℕ → ℕ → ℕ
cell_before i row column = under_lines i ((inner_area i).x + column) ((inner_area i).y + row) blank_cell

-- the composed line with an index, `no_composed_line` past the last
unfoldable pub line_numbered : Call → ℕ → Line
line_numbered i number = get_or (composed_lines i) number no_composed_line

-- a cell of the inner area, by its column and row on the screen
module _ (i : Call) (column row : ℕ) (within : contains (inner_area i) column row ≡ true) where
  -- the frame keeps the symbols of the inner area
  pub frame_keeps : is_empty (inner_area i) ≡ false
      → KeepsSymbol (frame i.styles (screen_in i) (titles_from i.notice.ambiguous i.titles) i.notice.block (met i)) column row
  unfolding inner_area inner_area_of block_of
  frame_keeps some cell =
      rw (some-met i some) at (block_keeps i.styles (screen_in i) i.notice.ambiguous i.notice.block i.titles i.area column row within cell)

  -- the cell is one of the screen's
  pub stored_on : AreaOnScreen (screen_in i) (length i.cells) (inner_area i) → (column < i.columns) × (row * i.columns + column < length i.cells)
  stored_on there =
      let on = there.on_screen in
      let b = inside_between (inner_area i) column row within in (
        omega (arith, b.right, on.right),
        omega (arith, b.right, row_fits i.columns (right_of (inner_area i)) row i.rows (length i.cells) on.right (omega (arith, b.bottom, on.bottom)) on.size),
      )

module _ (i : Call) (d : DrawnNotice i) (column row : ℕ) (within : contains (inner_area i) column row ≡ true) where
  pub under_keeps : KeepsSymbol (under_lines i) column row
  unfolding under_lines
  under_keeps = order_keeps (before_lines i) column row (style_keeps (met i) _ column row, (frame_keeps i column row within d.some_cell, (style_keeps (inner_area i) _ column row, tt)))

  pub cell_stored : row * i.columns + column < length i.cells
  cell_stored = (stored_on i column row within (drawn-there i d)).1

  -- a notice with a non-empty inner area draws its lines last
  lines-drawn-last : (cell : ℕ) → drawing_of i column row cell
      ≡ text_on i.styles i.notice.text_style (composed_lines i) (inner_area i) i.notice.scroll column row (under_lines i column row cell)
  unfolding drawing_of notice_of inside_of inner_area inner_area_of composed_lines notice_lines under_lines
  lines-drawn-last cell = rw (drawn-met i d, d.some_cell)

  -- the line is drawn on what the other drawings leave of the cell
  pub cell_drawn : get_or (pair_cells i) (row * i.columns + column) 0
      ≡ line_on i.styles i.notice.text_style (inner_area i).width (line_numbered i (i.notice.scroll + (row - (inner_area i).y))) (column - (inner_area i).x)
      (under_lines i column row (get_or i.cells (row * i.columns + column) 0))
  unfolding cells_after line_numbered text_on
  cell_drawn =
      rw ((same_as_combined i d.accepted).cells, accepted-whole i d.accepted)
      (drawn-at i.columns (drawing_of i) i.cells column row (stored_on i column row within (drawn-there i d)).0 cell_stored
      ∙ lines-drawn-last (get_or i.cells (row * i.columns + column) 0)
      ∙ inside-there (inner_area i) _ column row _ within)

module _ (i : Call) (w : WrappedNotice i) where
  -- the same on a page, which starts on blank cells
  page_cell : (scroll column row : ℕ) → contains (inner_area i) column row ≡ true → get_or (pair_cells (call_at i scroll)) (row * i.columns + column) 0
      ≡ line_on i.styles i.notice.text_style (inner_area i).width (line_numbered i (scroll + (row - (inner_area i).y))) (column - (inner_area i).x)
      (under_lines i column row blank_cell)
  unfolding inner_area inner_area_of composed_lines notice_lines line_numbered under_lines
  page_cell scroll column row within =
      let page = call_at i scroll in
      let here = row * i.columns + column in
      let few : here < i.columns * i.rows = omega (arith, cell_stored page (page-drawn i w scroll) column row within, length-replicate (i.columns * i.rows) blank_cell) in
      rw (get_or-replicate (i.columns * i.rows) here blank_cell 0 few) at (cell_drawn page (page-drawn i w scroll) column row within)

  module _ (row column : ℕ) (down : row < (inner_area i).height) (across : column < (inner_area i).width) where
    is-inside : contains (inner_area i) ((inner_area i).x + column) ((inner_area i).y + row) ≡ true
    is-inside = inner_has i (is-drawn i w) ((inner_area i).x + column) ((inner_area i).y + row) (omega arith) (omega arith) (omega arith) (omega arith)

    -- before the line is drawn the cell has the blank symbol
    pub before-blank : (cell_from (cell_before i row column)).symbol ≡ blank_symbol
    unfolding cell_before
    before-blank = under_keeps i (is-drawn i w) ((inner_area i).x + column) ((inner_area i).y + row) is-inside blank_cell

    -- the line is drawn on that cell
    pub cell_there : (scroll : ℕ) → get_or (pair_cells (call_at i scroll)) (((inner_area i).y + row) * i.columns + ((inner_area i).x + column)) 0
        ≡ line_on i.styles i.notice.text_style (inner_area i).width (line_numbered i (scroll + row)) column (cell_before i row column)
    unfolding cell_before
    cell_there scroll =
        let own_row : (inner_area i).y + row - (inner_area i).y ≡ row = omega arith in
        let own-column : (inner_area i).x + column - (inner_area i).x ≡ column = omega arith in
        rw (own_row, own-column) at (page_cell scroll ((inner_area i).x + column) ((inner_area i).y + row) is-inside)
