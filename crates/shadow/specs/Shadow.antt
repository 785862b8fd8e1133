-- Document 01, 'Inner area and frame (block.rs, padding.rs)': the drawing of a shadow (block/shadow.rs).
use Rattle.std.specs.Prelude.{ℕ, List, [], ◌∷◌, ℤ}
use Rattle.cell.specs.Cell.{with_symbol, styled}
use Rattle.layout.specs.declared.Rect.{Rect}
use Rattle.layout.specs.Rect.{meet, offset_by}
use Rattle.block.specs.declared.Effect.{Effect}
use Rattle.block.specs.declared.Effect.TheVariants.{Overlay, Symbol}
use Rattle.block.specs.declared.Shadow.{Shadow}
use Rattle.block.specs.declared.Shadow.TheVariants.{Absent, Present}
use Rattle.buffer.specs.declared.Screen.{Screen}
use Rattle.buffer.specs.Drawing.{Drawing, over, sparing, in_order, area_of, style_at}

-- "x moves by a signed 32-bit offset, held from 0 to 65,535 less width; y likewise"; "Its cells on the screen"
abbrev pub shadow_area : Screen → Rect → ℤ → ℤ → Rect
shadow_area screen base x y = meet (offset_by base x y) (area_of screen)

-- "the block's own cells are spared"
abbrev pub only_outside : Rect → Rect → (ℕ → ℕ) → Drawing
only_outside base area f = sparing base (over area f)

-- "Its effect is an overlay, which does no more, or a symbol, which they then get"
abbrev pub effect_of : Rect → Rect → Effect → Drawing
effect_of base area Overlay = in_order []
effect_of base area (Symbol symbol) = only_outside base area (with_symbol symbol)

-- "Its cells on the screen get the shadow's style"; "a block may have no shadow"
unfoldable pub shadow_of : List ℕ → Screen → Rect → Shadow → Drawing
shadow_of styles screen base Absent = in_order []
shadow_of styles screen base (Present effect style x y) =
    let area = shadow_area screen base x y in
    in_order (only_outside base area (styled (style_at styles style)) ∷ effect_of base area effect ∷ [])
