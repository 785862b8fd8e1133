-- Drawing the frame, and the block on the intersection of its area and the screen: one law for each path through the code.
use Prim.Native.Nat.{ℕ, ◌<◌, ◌^◌}
use mathlib.Core.Path.{◌≡◌, sym, ◌∙◌}
use mathlib.Core.Bool.{Bool, true, false, not}
use mathlib.Core.List.{List, [], ◌∷◌}
use Rattle.layout.specs.declared.Rect.{Rect}
use Rattle.layout.specs.Rect.{meet, is_empty}
use Rattle.block.specs.declared.Block.{Block}
use Rattle.buffer.specs.declared.Screen.{Screen}
use Rattle.buffer.specs.declared.Ink.TheVariants.{Style}
use Rattle.buffer.specs.Drawing.{drawn, over, in_order, area_of, style_at}
use Rattle.buffer.specs.InkExtra.{inked}
use Rattle.buffer.specs.PartsExtra.{OnScreen}
use Rattle.buffer.proofs.Drawn.{drawn_also}
use Rattle.buffer.proofs.OnScreen.{meeting_on_screen}
use Rattle.buffer.proofs.Order.{first_then, only_drawn, only_spared}
use Rattle.render_borders.specs.Borders.{sides, corners}
use Rattle.titles.specs.Titles.{Title, titles_on}
use Rattle.shadow.specs.Shadow.{shadow_of}
use Rattle.render_block.specs.Frame.{frame, block_of}
use Rattle.buffer.specs.PartsExtra.{HasCells}

module _ (columns : ℕ) (styles : List ℕ) (screen : Screen) (titles : List Title) (b : Block) (cells : List ℕ) where
  -- sides and corners, then titles
  pub borders_titles-drawn : (met : Rect) (next last : List ℕ)
      → next ≡ drawn columns (in_order (sides styles b met ∷ corners styles b met ∷ [])) cells
      → last ≡ drawn columns (titles_on styles b met titles) next
      → last ≡ drawn columns (in_order (sides styles b met ∷ corners styles b met ∷ titles_on styles b met titles ∷ [])) cells
  borders_titles-drawn met next last p q = drawn_also columns _ (titles_on styles b met titles) cells next last p q

  -- style, borders and titles, shadow
  pub frame_drawn : (met : Rect) (style : ℕ) (first second last : List ℕ) → style ≡ style_at styles b.style
      → first ≡ drawn columns (over met (inked (Style style))) cells
      → second ≡ drawn columns (in_order (sides styles b met ∷ corners styles b met ∷ titles_on styles b met titles ∷ [])) first
      → last ≡ drawn columns (shadow_of styles screen met b.shadow) second
      → last ≡ drawn columns (frame styles screen titles b met) cells
  unfolding frame inked
  frame_drawn met style first second last e p q r =
      first_then columns _ (sides styles b met ∷ corners styles b met ∷ titles_on styles b met titles ∷ shadow_of styles screen met b.shadow ∷ []) cells first last
      (rw e at p) (drawn_also columns _ (shadow_of styles screen met b.shadow) first second last q r)

  module _ (area all met : Rect) (a : all ≡ area_of screen) (m : met ≡ meet area all) (empty : Bool) (f : empty ≡ is_empty met) (some : 0 < columns) where
    met-is-meet : met ≡ meet area (area_of screen)
    met-is-meet = rw a at m

    -- an empty meeting draws no cell
    pub block-unchanged : empty ≡ true → cells ≡ drawn columns (block_of styles screen titles b area) cells
    unfolding block_of
    block-unchanged g =
        let h : is_empty (meet area (area_of screen)) ≡ true = rw met-is-meet at (sym f ∙ g) in
        only_spared columns (not (is_empty (meet area (area_of screen)))) _ cells some (rw h)

    -- a non-empty one gets the frame
    pub block-drawn : empty ≡ false → (next : List ℕ) → next ≡ drawn columns (frame styles screen titles b met) cells
        → next ≡ drawn columns (block_of styles screen titles b area) cells
    unfolding block_of
    block-drawn g next p =
        let h : is_empty (meet area (area_of screen)) ≡ false = rw met-is-meet at (sym f ∙ g) in
        only_drawn columns (not (is_empty (meet area (area_of screen)))) _ cells some next (rw h) (rw met-is-meet at p)

-- a non-empty met area lies on the screen
pub met-on_screen : (screen : Screen) (n : ℕ) (area all met : Rect) (empty : Bool) → HasCells screen n → all ≡ area_of screen → met ≡ meet area all
    → empty ≡ is_empty met → empty ≡ false → OnScreen screen n met
met-on_screen screen n area all met empty h a m f g = meeting_on_screen screen n met h.columns h.size area (rw a at m) (sym f ∙ g)

pub met-not-empty : (met : Rect) (empty : Bool) → empty ≡ is_empty met → empty ≡ false → is_empty met ≡ false
met-not-empty met empty f g = sym f ∙ g

-- a screen with cells has fewer than 2^15 columns and rows
pub few_columns : (screen : Screen) (n : ℕ) → HasCells screen n → screen.columns < 2 ^ 15
few_columns screen n h = h.few_columns

pub few_rows : (screen : Screen) (n : ℕ) → HasCells screen n → screen.rows < 2 ^ 15
few_rows screen n h = h.few_rows

pub ruleset frames = (borders_titles-drawn, frame_drawn, block-unchanged, block-drawn, met-on_screen, met-not-empty, few_columns, few_rows)
