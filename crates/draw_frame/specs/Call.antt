-- Document 02, C-15: "one draws the frame, paragraph style first, and answers the inner area (four zeros where refused)". "The frame call
-- checks 1, 2, 5, 6, 7 over its own inputs". The causes, the answer and the drawing of the call `draw_frame`.
use Rattle.std.specs.Prelude.{ℕ, List, [], ◌∷◌, ◌++◌, length, Result}
use Rattle.text.specs.declared.AmbiguousWidth.{AmbiguousWidth}
use Rattle.layout.specs.declared.Rect.{Rect}
use Rattle.buffer.specs.declared.Screen.{Screen as ScreenSize}
use Rattle.buffer.specs.Drawing.{Drawing, drawn}
use Rattle.buffer.specs.Screen.{screen_of}
use Rattle.refuse.specs.declared.Ceilings.{Ceilings}
use Rattle.refuse.specs.declared.Refusal.{Refusal}
use Rattle.refuse.specs.declared.Refusal.TheVariants.{Titles, StyleNumber, Symbol}
use Rattle.refuse.specs.Refusal.{Cause, ◌if◌, first_cause, answering, unless_refused, Verdict}
use Rattle.refuse.specs.Causes.{most_accepted, screen_causes, titles_wrong, style_numbers_wrong, symbols_wrong}
use Rattle.block.specs.declared.Block.{Block}
use Rattle.block.specs.Causes.{block_symbols}
use Rattle.check_block.specs.Styles.{frame_styles}
use Rattle.titles.specs.Titles.{titles_from}
use Rattle.paragraph.specs.Notice.{inner_area_of}
use Rattle.paragraph.specs.Apart.{frame_of}
use Rattle.inner.specs.Call.{no_rect}

-- inputs of the call; `cells` before the call, `style` the number of the paragraph style
pub record Call : Type 0 where
  pub columns : ℕ
  pub rows : ℕ
  pub cells : List ℕ
  pub styles : List ℕ
  pub titles : List ℕ
  pub ambiguous : AmbiguousWidth
  pub area : Rect
  pub style : ℕ
  pub block : Block

abbrev pub call_of : ℕ → ℕ → List ℕ → List ℕ → List ℕ → AmbiguousWidth → Rect → ℕ → Block → Call
call_of columns rows cells styles titles ambiguous area style block =
    record {
      columns = columns;
      rows = rows;
      cells = cells;
      styles = styles;
      titles = titles;
      ambiguous = ambiguous;
      area = area;
      style = style;
      block = block;
    }

-- all style numbers of the frame of a notice: the paragraph style's, the block's and the title glyphs'
unfoldable pub notice_frame_styles : ℕ → Block → List ℕ → List ℕ
notice_frame_styles style b titles = style ∷ frame_styles b titles

-- causes: 1, 2, 5, 6, 7
unfoldable pub causes_of : Ceilings → Call → List Cause
causes_of most call =
    screen_causes most call.columns call.rows (length call.cells) call.styles
    ++ (Titles if titles_wrong most call.titles
    ∷ StyleNumber if style_numbers_wrong (length call.styles) (notice_frame_styles call.style call.block call.titles)
    ∷ Symbol if symbols_wrong (block_symbols call.block)
    ∷ [])

unfoldable pub verdict_of : Call → Verdict
verdict_of call = first_cause (causes_of most_accepted call)

abbrev pub screen_in : Call → ScreenSize
screen_in call = screen_of call.columns call.rows

-- "the inner area": that of the met area, even if nothing is met
unfoldable pub inner_in : Call → Rect
inner_in call = inner_area_of (screen_in call) call.titles call.block call.area

unfoldable pub answer_of : Call → Result Rect Refusal
answer_of call = answering (verdict_of call) (inner_in call)

-- the area in the answer: "four zeros where refused"
unfoldable pub area_of : Call → Rect
area_of call = unless_refused (verdict_of call) (inner_in call) no_rect

-- the cells after the call; a refused one leaves "all cells"
unfoldable pub drawing_of : Call → Drawing
drawing_of call =
    frame_of call.styles (screen_in call) (titles_from call.ambiguous call.titles) call.style call.block call.area

unfoldable pub cells_after : Call → List ℕ
cells_after call = unless_refused (verdict_of call) (drawn call.columns (drawing_of call) call.cells) call.cells
