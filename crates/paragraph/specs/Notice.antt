-- Document 01, 'Rows, pages, tally (paragraph.rs)': the drawing of a notice and the counts in its answer. Document 02, C-15, calls it "the
-- combined drawing"; the drawings of its two calls are in Apart.
use Rattle.std.specs.Prelude.{ℕ, cond, not, List, [], ◌∷◌}
use Rattle.cell.specs.Cell.{styled}
use Rattle.layout.specs.declared.Rect.{Rect}
use Rattle.layout.specs.Rect.{meet, is_empty}
use Rattle.block.specs.declared.Block.{Block}
use Rattle.block.specs.Inner.{inner_of}
use Rattle.buffer.specs.declared.Screen.{Screen}
use Rattle.buffer.specs.Drawing.{Drawing, over, only_if, in_order, area_of, style_at}
use Rattle.titles.specs.Titles.{titles_from}
use Rattle.render_block.specs.Frame.{frame}
use Rattle.line_composer.specs.Lines.{Line, lines}
use Rattle.line_composer.specs.Wrap.{method_of, rule_at}
use Rattle.render_lines.specs.declared.DrawCounts.{DrawCounts}
use Rattle.render_lines.specs.Rows.{text_on, rows_drawn, placed_on, clipped_on}
use Rattle.render_text.specs.declared.TextSettings.{TextSettings}
use Rattle.paragraph.specs.declared.Notice.{Notice}

-- the settings of a notice without its block
abbrev pub settings_of : Notice → TextSettings
settings_of n =
    record {
      style = n.style;
      text_style = n.text_style;
      alignment = n.alignment;
      wrap = n.wrap;
      scroll = n.scroll;
      ambiguous = n.ambiguous;
    }

-- the lines of a notice, "composed with the inner width as the limit"
unfoldable pub notice_lines : TextSettings → List ℕ → ℕ → List Line
notice_lines s text width = lines (rule_at s.ambiguous s.wrap width) (method_of s.wrap) s.alignment text

-- "inner area of the met area"
unfoldable pub inner_area_of : Screen → List ℕ → Block → Rect → Rect
inner_area_of screen titles b area = inner_of b titles (meet area (area_of screen))

-- "paragraph style over that inner area, lines from the scroll row (16 bits). An empty inner area gets no line"
unfoldable pub inside_of : List ℕ → List ℕ → TextSettings → Rect → Drawing
inside_of styles text s inner =
    in_order
    (over inner (styled (style_at styles s.style))
    ∷ only_if (not (is_empty inner)) (text_on styles s.text_style (notice_lines s text inner.width) inner s.scroll)
    ∷ [])

-- "A notice is drawn as a `Paragraph` is: frame, inner area of the met area, …". 'Inner area and frame': "an empty meeting draws
-- no cell. Then, over the met area: the paragraph style where a notice is drawn, block style, …"
unfoldable pub notice_of : List ℕ → Screen → List ℕ → List ℕ → Notice → Rect → Drawing
notice_of styles screen text titles n area =
    let met = meet area (area_of screen) in
    only_if (not (is_empty met))
    (in_order
    (over met (styled (style_at styles n.style))
    ∷ frame styles screen (titles_from n.ambiguous titles) n.block met
    ∷ inside_of styles text (settings_of n) (inner_area_of screen titles n.block area)
    ∷ []))

-- "the counts are 0"
abbrev pub no_draw_counts : DrawCounts
no_draw_counts = record { rows = 0; placed = 0; clipped = 0 }

-- "The answer carries the rows drawn, glyphs placed and clipped." "An empty inner area gets no line, and the counts are 0". If
-- the meeting is empty, so is its inner area.
unfoldable pub inside_counts : List ℕ → TextSettings → Rect → DrawCounts
inside_counts text s inner =
    let composed = notice_lines s text inner.width in
    cond (is_empty inner)
    no_draw_counts
    (record {
      rows = rows_drawn composed inner s.scroll;
      placed = placed_on composed inner s.scroll;
      clipped = clipped_on composed inner s.scroll;
    })

unfoldable pub notice_counts : Screen → List ℕ → List ℕ → Notice → Rect → DrawCounts
notice_counts screen text titles n area = inside_counts text (settings_of n) (inner_area_of screen titles n.block area)
