-- Document 02, C-15, 'Frame and text drawn apart': "Split the drawing of a notice into two calls: one draws the frame, paragraph style
-- first, and answers the inner area (…), one lays paragraph style and text into a given area, met with the screen first." The inner
-- area is `inner_area_of`, in Notice.
use Rattle.std.specs.Prelude.{ℕ, not, List, [], ◌∷◌}
use Rattle.cell.specs.Cell.{styled}
use Rattle.layout.specs.declared.Rect.{Rect}
use Rattle.layout.specs.Rect.{meet, is_empty}
use Rattle.block.specs.declared.Block.{Block}
use Rattle.buffer.specs.declared.Screen.{Screen}
use Rattle.buffer.specs.Drawing.{Drawing, over, only_if, in_order, area_of, style_at}
use Rattle.titles.specs.Titles.{Title}
use Rattle.render_block.specs.Frame.{frame}
use Rattle.render_lines.specs.declared.DrawCounts.{DrawCounts}
use Rattle.render_text.specs.declared.TextSettings.{TextSettings}
use Rattle.paragraph.specs.Notice.{inside_of, inside_counts}

-- "draws the frame, paragraph style first". Document 01: "Drawing meets area and screen first (…); an empty meeting draws no cell. Then,
-- over the met area: the paragraph style where a notice is drawn, block style, …"
unfoldable pub frame_of : List ℕ → Screen → List Title → ℕ → Block → Rect → Drawing
frame_of styles screen titles style b area =
    let met = meet area (area_of screen) in
    only_if (not (is_empty met)) (in_order (over met (styled (style_at styles style)) ∷ frame styles screen titles b met ∷ []))

-- "lays paragraph style and text into a given area, met with the screen first"; so the limit is the width of what is met
unfoldable pub paragraph_of : List ℕ → Screen → List ℕ → TextSettings → Rect → Drawing
paragraph_of styles screen text s area = inside_of styles text s (meet area (area_of screen))

-- the counts in its answer
unfoldable pub paragraph_counts : Screen → List ℕ → TextSettings → Rect → DrawCounts
paragraph_counts screen text s area = inside_counts text s (meet area (area_of screen))
