-- Document 02, C-15: "one lays paragraph style and text into a given area, met with the screen first". "the text call checks 1, 2, 3, 4,
-- 6", "over its own inputs". The causes, the answer and the drawing of the call `draw_text`.
use Rattle.std.specs.Prelude.{ℕ, List, [], ◌∷◌, ◌++◌, length, Result, Ok, Err}
use Rattle.layout.specs.declared.Rect.{Rect}
use Rattle.buffer.specs.declared.Screen.{Screen as ScreenSize}
use Rattle.buffer.specs.Drawing.{Drawing, drawn}
use Rattle.buffer.specs.Screen.{screen_of}
use Rattle.refuse.specs.declared.Ceilings.{Ceilings}
use Rattle.refuse.specs.declared.Refusal.{Refusal}
use Rattle.refuse.specs.declared.Refusal.TheVariants.{StyleNumber}
use Rattle.refuse.specs.Refusal.{Cause, ◌if◌, first_cause, answering, unless_refused, Verdict}
use Rattle.refuse.specs.Causes.{most_accepted, screen_causes, text_causes, glyph_styles, style_numbers_wrong}
use Rattle.render_lines.specs.declared.DrawCounts.{DrawCounts}
use Rattle.render_text.specs.declared.TextSettings.{TextSettings}
use Rattle.paragraph.specs.Notice.{no_draw_counts}
use Rattle.paragraph.specs.Apart.{paragraph_of, paragraph_counts}

-- inputs of the call; `cells` before the call
pub record Call : Type 0 where
  pub columns : ℕ
  pub rows : ℕ
  pub cells : List ℕ
  pub styles : List ℕ
  pub text : List ℕ
  pub area : Rect
  pub settings : TextSettings

abbrev pub call_of : ℕ → ℕ → List ℕ → List ℕ → List ℕ → Rect → TextSettings → Call
call_of columns rows cells styles text area settings =
    record { columns = columns; rows = rows; cells = cells; styles = styles; text = text; area = area; settings = settings }

-- all style numbers of the text of a notice: the paragraph style's, the text style's and the text glyphs'
unfoldable pub text_styles : TextSettings → List ℕ → List ℕ
text_styles s text = s.style ∷ s.text_style ∷ glyph_styles text

-- causes: 1, 2, 3, 4, 6
unfoldable pub causes_of : Ceilings → Call → List Cause
causes_of most call =
    screen_causes most call.columns call.rows (length call.cells) call.styles
    ++ (text_causes most call.text
    ++ (StyleNumber if style_numbers_wrong (length call.styles) (text_styles call.settings call.text)
    ∷ []))

unfoldable pub verdict_of : Call → Verdict
verdict_of call = first_cause (causes_of most_accepted call)

abbrev pub screen_in : Call → ScreenSize
screen_in call = screen_of call.columns call.rows

unfoldable pub drawing_of : Call → Drawing
drawing_of call = paragraph_of call.styles (screen_in call) call.text call.settings call.area

unfoldable pub rows_of : Call → DrawCounts
rows_of call = paragraph_counts (screen_in call) call.text call.settings call.area

unfoldable pub answer_of : Call → Result DrawCounts Refusal
answer_of call = answering (verdict_of call) (rows_of call)

-- the counts in the answer: "number, counts 0" if refused
unfoldable pub counts_of : Call → DrawCounts
counts_of call = unless_refused (verdict_of call) (rows_of call) no_draw_counts

-- the cells after the call; a refused one leaves "all cells"
unfoldable pub cells_after : Call → List ℕ
cells_after call = unless_refused (verdict_of call) (drawn call.columns (drawing_of call) call.cells) call.cells

-- the counts of an answer
abbrev pub draw_answer_counts : Result DrawCounts Refusal → DrawCounts
draw_answer_counts (Ok counts) = counts
draw_answer_counts (Err why) = no_draw_counts
