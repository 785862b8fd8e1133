-- Document 01, 'Why a call is refused': the causes, the counts and the cells of a notice drawn whole. Document 02, C-15: "The old combined call
-- is withdrawn"; "the cells and counts that the combined drawing defined" are these. "A call that draws through both (…) checks all its
-- inputs first, in the old order": the order of these causes.
use Rattle.std.specs.Prelude.{ℕ, List, [], ◌∷◌, ◌++◌, length}
use Rattle.layout.specs.declared.Rect.{Rect}
use Rattle.buffer.specs.declared.Screen.{Screen as ScreenSize}
use Rattle.buffer.specs.Drawing.{Drawing, drawn}
use Rattle.buffer.specs.Screen.{screen_of}
use Rattle.refuse.specs.declared.Ceilings.{Ceilings}
use Rattle.refuse.specs.declared.Refusal.TheVariants.{Titles, StyleNumber, Symbol}
use Rattle.refuse.specs.Refusal.{Cause, ◌if◌, first_cause, unless_refused, Verdict}
use Rattle.refuse.specs.Causes.{most_accepted, screen_causes, text_causes, titles_wrong, style_numbers_wrong, symbols_wrong}
use Rattle.block.specs.Causes.{block_symbols}
use Rattle.check_block.specs.Styles.{frame_styles}
use Rattle.render_lines.specs.declared.DrawCounts.{DrawCounts}
use Rattle.paragraph.specs.declared.Notice.{Notice}
use Rattle.paragraph.specs.Notice.{settings_of, notice_of, notice_counts, no_draw_counts}
use Rattle.draw_text.specs.Call.{text_styles}

-- a notice and its screen, with the cells before it is drawn
pub record Call : Type 0 where
  pub columns : ℕ
  pub rows : ℕ
  pub cells : List ℕ
  pub styles : List ℕ
  pub text : List ℕ
  pub titles : List ℕ
  pub area : Rect
  pub notice : Notice

abbrev pub call_of : ℕ → ℕ → List ℕ → List ℕ → List ℕ → List ℕ → Rect → Notice → Call
call_of columns rows cells styles text titles area notice =
    record {
      columns = columns;
      rows = rows;
      cells = cells;
      styles = styles;
      text = text;
      titles = titles;
      area = area;
      notice = notice;
    }

-- all style numbers of a notice: its own, the text's, the text glyphs', the block's and the title glyphs'
unfoldable pub notice_styles : Notice → List ℕ → List ℕ → List ℕ
notice_styles n text titles = text_styles (settings_of n) text ++ frame_styles n.block titles

-- causes 1 to 7
unfoldable pub causes_of : Ceilings → Call → List Cause
causes_of most call =
    screen_causes most call.columns call.rows (length call.cells) call.styles
    ++ (text_causes most call.text
    ++ (Titles if titles_wrong most call.titles
    ∷ StyleNumber if style_numbers_wrong (length call.styles) (notice_styles call.notice call.text call.titles)
    ∷ Symbol if symbols_wrong (block_symbols call.notice.block)
    ∷ []))

unfoldable pub verdict_of : Call → Verdict
verdict_of call = first_cause (causes_of most_accepted call)

abbrev pub screen_in : Call → ScreenSize
screen_in call = screen_of call.columns call.rows

unfoldable pub drawing_of : Call → Drawing
drawing_of call = notice_of call.styles (screen_in call) call.text call.titles call.notice call.area

unfoldable pub rows_of : Call → DrawCounts
rows_of call = notice_counts (screen_in call) call.text call.titles call.notice call.area

-- the counts: "number, counts 0" if refused
unfoldable pub counts_of : Call → DrawCounts
counts_of call = unless_refused (verdict_of call) (rows_of call) no_draw_counts

-- the cells afterwards; "all cells" are left if refused
unfoldable pub cells_after : Call → List ℕ
cells_after call = unless_refused (verdict_of call) (drawn call.columns (drawing_of call) call.cells) call.cells
