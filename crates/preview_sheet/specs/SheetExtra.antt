-- Not in the papers: the notice of an opening of the packed form, as `preview` draws and measures it.
use Rattle.std.specs.Prelude.{ℕ, Result, Ok, Err, Bool, cond, List, [], pos}
use Rattle.text.specs.declared.AmbiguousWidth.{AmbiguousWidth}
use Rattle.layout.specs.declared.Rect.{Rect}
use Rattle.layout.specs.Rect.{meet}
use Rattle.buffer.specs.Drawing.{area_of}
use Rattle.buffer.specs.Screen.{screen_of}
use Rattle.refuse.specs.declared.Refusal.{Refusal}
use Rattle.inner.specs.Call.{call_of as innerCall, answer_of as innerAnswer}
use Rattle.line_composer.specs.declared.Wrap.{Wrap}
use Rattle.measure.specs.LineCount.{call_of as count_call, answer_of as countAnswer}
use Rattle.paragraph.specs.declared.Notice.{Notice}
use Rattle.draw_frame.specs.Call.{answer_of as frameAnswer}
use Rattle.render_lines.specs.declared.DrawCounts.{DrawCounts}
use Rattle.draw_text.specs.Call.{answer_of as textAnswer}
use Rattle.draw_notice.specs.Call.{Call, call_of}
use Rattle.draw_notice.specs.Pair.{frame_call, text_call}
use Rattle.pages.specs.Pages.{scrolled_to}
use Rattle.flat.specs.declared.FlatBlock.{FlatBlock}
use Rattle.flat.specs.FlatExtra.{ambiguous_named, area_from, block_from, notice_from, wrap_named}
use Rattle.preview_file.specs.declared.Opening.{Opening}
use Rattle.preview_sheet.specs.WidthsExtra.{widened_block}
use Rattle.preview_sheet.specs.declared.Measure.{Measure}

-- the notice with scroll row `first`
abbrev pub notice_at : Opening → ℕ → Notice
notice_at o first = scrolled_to first (notice_from o.block o.text)

-- the notice on cells
abbrev pub call_at : Opening → ℕ → List ℕ → List ℕ → List ℕ → List ℕ → Call
call_at o first styles titles text cells =
    call_of o.columns o.rows cells styles text titles (area_from o.area) (notice_at o first)

-- the answer of both calls: that of the text, or why the frame is refused
abbrev pub answered_both : Result Rect Refusal → Result DrawCounts Refusal → Result DrawCounts Refusal
answered_both (Ok inner) drawn = drawn
answered_both (Err why) drawn = Err why

unfoldable pub pair_answer : Call → Result DrawCounts Refusal
pair_answer call = answered_both (frameAnswer (frame_call call)) (textAnswer (text_call call))

-- the opening with its ambiguous glyphs read wide, if so asked
abbrev pub opening_read : Bool → Opening → Opening
opening_read wide o =
    record {
      columns = o.columns;
      rows = o.rows;
      area = o.area;
      block = o.block;
      text =
          record {
            scroll = o.text.scroll;
            column = o.text.column;
            style = o.text.style;
            text_style = o.text.text_style;
            alignment = o.text.alignment;
            wrap = o.text.wrap;
            ambiguous = cond wide 2 o.text.ambiguous;
          };
      styles = o.styles;
      titles = o.titles;
      records = o.records;
    }

-- the opening with the symbols of its block replaced by their widths
abbrev pub widened_opening : Opening → Opening
widened_opening o =
    record {
      columns = o.columns;
      rows = o.rows;
      area = o.area;
      block = widened_block o.block;
      text = o.text;
      styles = o.styles;
      titles = o.titles;
      records = o.records;
    }

-- a block with nothing set, which adds no rows to the lines
abbrev pub nothing_set : FlatBlock
nothing_set =
    record {
      top_left = 0;
      top_right = 0;
      bottom_left = 0;
      bottom_right = 0;
      vertical_left = 0;
      vertical_right = 0;
      horizontal_top = 0;
      horizontal_bottom = 0;
      shadow_symbol = 0;
      shadow_x = pos 0;
      shadow_y = pos 0;
      padding_left = 0;
      padding_right = 0;
      padding_top = 0;
      padding_bottom = 0;
      border_top = 0;
      border_right = 0;
      border_bottom = 0;
      border_left = 0;
      border_style = 0;
      style = 0;
      titles_style = 0;
      titles_alignment = 0;
      titles_position = 0;
      shadow = 0;
      shadow_style = 0;
    }

-- count of lines at an area's width, given the answer of `line_count`
abbrev pub fitted : Rect → Result ℕ Refusal → Result Measure Refusal
fitted inside (Ok lines) = Ok (record { width = inside.width; height = inside.height; lines = lines })
fitted inside (Err why) = Err why

unfoldable pub lines_in : AmbiguousWidth → Wrap → List ℕ → Rect → Result Measure Refusal
lines_in ambiguous wrap text inside =
    fitted inside (countAnswer (count_call text ambiguous [] (block_from nothing_set) wrap inside.width))

-- size and lines of the inner area, given the answer of `inner` on the intersection of area and screen
abbrev pub measured_in : AmbiguousWidth → Wrap → List ℕ → Result Rect Refusal → Result Measure Refusal
measured_in ambiguous wrap text (Ok inside) = lines_in ambiguous wrap text inside
measured_in ambiguous wrap text (Err why) = Err why

abbrev pub met_of : Opening → Rect
met_of o = meet (area_from o.area) (area_of (screen_of o.columns o.rows))

unfoldable pub fitting_of : Opening → List ℕ → List ℕ → Result Measure Refusal
fitting_of o titles text =
    measured_in (ambiguous_named o.text.ambiguous) (wrap_named o.text) text (innerAnswer (innerCall (block_from o.block) titles (met_of o)))
