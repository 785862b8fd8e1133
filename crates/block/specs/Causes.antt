-- Document 01, 'Why a call is refused': the style numbers and symbols of a block, which causes 6 and 7 check.
use Rattle.std.specs.Prelude.{ℕ, ◌≡◌, false, List, [], ◌∷◌, ◌++◌}
use Rattle.refuse.specs.Causes.{symbols_wrong}
use Rattle.block.specs.declared.Block.{Block}
use Rattle.block.specs.declared.BorderSet.{BorderSet}
use Rattle.block.specs.declared.Effect.{Effect}
use Rattle.block.specs.declared.Effect.TheVariants.{Overlay, Symbol}
use Rattle.block.specs.declared.Shadow.{Shadow}
use Rattle.block.specs.declared.Shadow.TheVariants.{Absent, Present}

-- style numbers of a shadow, none if it is absent
abbrev pub shadow_styles : Shadow → List ℕ
shadow_styles Absent = []
shadow_styles (Present effect style x y) = style ∷ []

-- style numbers of a block's settings
unfoldable pub block_styles : Block → List ℕ
block_styles b = b.border_style ∷ b.style ∷ b.titles_style ∷ shadow_styles b.shadow

-- symbols of a shadow, none if it is an overlay or absent
abbrev pub effect_symbols : Effect → List ℕ
effect_symbols Overlay = []
effect_symbols (Symbol symbol) = symbol ∷ []

abbrev pub shadow_symbols : Shadow → List ℕ
shadow_symbols Absent = []
shadow_symbols (Present effect style x y) = effect_symbols effect

-- border symbols, including those of sides without a border
unfoldable pub border_symbols : BorderSet → List ℕ
border_symbols s =
    s.top_left ∷ s.top_right ∷ s.bottom_left ∷ s.bottom_right
    ∷ s.vertical_left ∷ s.vertical_right ∷ s.horizontal_top ∷ s.horizontal_bottom ∷ []

-- symbols of a block's settings: border symbols and the shadow's
unfoldable pub block_symbols : Block → List ℕ
block_symbols b = border_symbols b.border_set ++ shadow_symbols b.shadow

-- no cause 7: the precondition of drawing a block's symbols
abbrev pub SymbolsFit : Block → Type 0
SymbolsFit b = symbols_wrong (block_symbols b) ≡ false
