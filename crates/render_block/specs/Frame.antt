-- Document 01, 'Inner area and frame (block.rs, padding.rs)': the drawing of a block.
use Rattle.std.specs.Prelude.{ℕ, not, List, [], ◌∷◌}
use Rattle.cell.specs.Cell.{styled}
use Rattle.layout.specs.declared.Rect.{Rect}
use Rattle.layout.specs.Rect.{meet, is_empty}
use Rattle.block.specs.declared.Block.{Block}
use Rattle.buffer.specs.declared.Screen.{Screen}
use Rattle.buffer.specs.Drawing.{Drawing, over, only_if, in_order, area_of, style_at}
use Rattle.render_borders.specs.Borders.{sides, corners}
use Rattle.titles.specs.Titles.{Title, titles_on}
use Rattle.shadow.specs.Shadow.{shadow_of}

-- "over the met area": "block style, sides …, corners …, top titles, bottom titles, shadow".
-- The paragraph style of a notice, which comes first, is drawn by crate `paragraph`.
unfoldable pub frame : List ℕ → Screen → List Title → Block → Rect → Drawing
frame styles screen titles b met =
    in_order
    (over met (styled (style_at styles b.style))
    ∷ sides styles b met
    ∷ corners styles b met
    ∷ titles_on styles b met titles
    ∷ shadow_of styles screen met b.shadow
    ∷ [])

-- "Drawing meets area and screen first (…); an empty meeting draws no cell."
unfoldable pub block_of : List ℕ → Screen → List Title → Block → Rect → Drawing
block_of styles screen titles b area =
    only_if (not (is_empty (meet area (area_of screen)))) (frame styles screen titles b (meet area (area_of screen)))
