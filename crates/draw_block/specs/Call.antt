-- Document 01, 'Why a call is refused': the causes, the answer and the drawing of the call `draw_block`. Document 02, C-11: "each
-- call that reads widths takes an enum setting".
use Rattle.std.specs.Prelude.{ℕ, List, [], ◌∷◌, ◌++◌, length}
use Rattle.text.specs.declared.AmbiguousWidth.{AmbiguousWidth}
use Rattle.layout.specs.declared.Rect.{Rect}
use Rattle.buffer.specs.Drawing.{Drawing, drawn}
use Rattle.buffer.specs.Screen.{screen_of}
use Rattle.refuse.specs.declared.Ceilings.{Ceilings}
use Rattle.refuse.specs.declared.Refusal.TheVariants.{Titles, StyleNumber, Symbol}
use Rattle.refuse.specs.Refusal.{Cause, ◌if◌, first_cause, unless_refused, Verdict}
use Rattle.refuse.specs.Causes.{most_accepted, screen_causes, titles_wrong, style_numbers_wrong, symbols_wrong}
use Rattle.block.specs.declared.Block.{Block}
use Rattle.block.specs.Causes.{block_symbols}
use Rattle.check_block.specs.Styles.{frame_styles}
use Rattle.titles.specs.Titles.{titles_from}
use Rattle.render_block.specs.Frame.{block_of}

-- inputs of the call, with the cells before it
pub record Call : Type 0 where
  pub columns : ℕ
  pub rows : ℕ
  pub cells : List ℕ
  pub styles : List ℕ
  pub titles : List ℕ
  pub ambiguous : AmbiguousWidth
  pub area : Rect
  pub block : Block

abbrev pub call_of : ℕ → ℕ → List ℕ → List ℕ → List ℕ → AmbiguousWidth → Rect → Block → Call
call_of columns rows cells styles titles ambiguous area block =
    record {
      columns = columns;
      rows = rows;
      cells = cells;
      styles = styles;
      titles = titles;
      ambiguous = ambiguous;
      area = area;
      block = block;
    }

-- causes: 1, 2, 5, 6, 7
unfoldable pub causes_of : Ceilings → Call → List Cause
causes_of most call =
    screen_causes most call.columns call.rows (length call.cells) call.styles
    ++ (Titles if titles_wrong most call.titles
    ∷ StyleNumber if style_numbers_wrong (length call.styles) (frame_styles call.block call.titles)
    ∷ Symbol if symbols_wrong (block_symbols call.block)
    ∷ [])

unfoldable pub verdict_of : Call → Verdict
verdict_of call = first_cause (causes_of most_accepted call)

-- answer: drawn, even if on no cell, or the cause of refusal
abbrev pub answer_of : Call → Verdict
answer_of = verdict_of

-- cells after the call: the block drawn on them; if the call is refused, "all cells" left
unfoldable pub drawing_of : Call → Drawing
drawing_of call =
    block_of call.styles (screen_of call.columns call.rows) (titles_from call.ambiguous call.titles) call.block call.area

unfoldable pub cells_after : Call → List ℕ
cells_after call = unless_refused (verdict_of call) (drawn call.columns (drawing_of call) call.cells) call.cells
