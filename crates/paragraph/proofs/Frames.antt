-- The frame in the intersection of an area and the screen: one law for each path through `render_frame`. `empty-inner`: an empty area has
-- an empty inner area.
use Prim.Native.Nat.{ℕ, ◌<◌}
use mathlib.Core.Path.{◌≡◌, refl, sym, ap, ◌∙◌}
use mathlib.Core.Bool.{Bool, true, false, not, ◌||◌, or-true, true≢false}
use mathlib.Core.List.{List, [], ◌∷◌}
use native.Mathlib.Omega.{arith}
use borrow.Author.Tests.{eqb-true, eq-eqb}
use lib.Dec.{eqb}
use Rattle.cell.specs.Cell.{styled}
use Rattle.layout.specs.declared.Rect.{Rect}
use Rattle.layout.specs.Rect.{meet, is_empty}
use Rattle.block.specs.declared.Block.{Block}
use Rattle.block.specs.Inner.{inner_of}
use Rattle.buffer.specs.declared.Screen.{Screen}
use Rattle.buffer.specs.declared.Ink.TheVariants.{Style}
use Rattle.buffer.specs.Drawing.{drawn, over, in_order, area_of, style_at}
use Rattle.buffer.specs.InkExtra.{inked}
use Rattle.buffer.specs.PartsExtra.{HasCells}
use Rattle.buffer.proofs.Order.{first_then, only_drawn, only_spared}
use Rattle.titles.specs.Titles.{Title}
use Rattle.render_block.specs.Frame.{frame}
use Rattle.paragraph.specs.Notice.{inner_area_of}
use Rattle.paragraph.specs.Apart.{frame_of}

-- the inner area of an empty area is empty
pub empty-inner : (b : Block) (titles : List ℕ) (met : Rect) → is_empty met ≡ true → is_empty (inner_of b titles met) ≡ true
unfolding inner_of
empty-inner b titles met e = go (eqb met.width 0) (eqb met.height 0) refl refl e
  where
    go : (w h : Bool) → w ≡ eqb met.width 0 → h ≡ eqb met.height 0 → w || h ≡ true → is_empty (inner_of b titles met) ≡ true
    go true h p q t = rw (eq-eqb (inner_of b titles met).width 0 (omega (arith, eqb-true met.width 0 (sym p))))
    go false true p q t = rw (eq-eqb (inner_of b titles met).height 0 (omega (arith, eqb-true met.height 0 (sym q))), or-true)
    go false false p q t = absurd (true≢false (sym t))

-- so if the inner area isn't empty, neither is the area
pub outer_some : (b : Block) (titles : List ℕ) (met : Rect) → is_empty (inner_of b titles met) ≡ false → is_empty met ≡ false
outer_some b titles met some = go (is_empty met) refl
  where
    go : (e : Bool) → is_empty met ≡ e → is_empty met ≡ false
    go true e = absurd (true≢false (sym (empty-inner b titles met e) ∙ some))
    go false e = e

module _ (columns : ℕ) (styles : List ℕ) (screen : Screen) (titles : List Title) (number : ℕ) (b : Block) (cells : List ℕ) where
  -- the notice's style, then the frame
  pub style_and_frame : (met : Rect) (style : ℕ) (first last : List ℕ) → style ≡ style_at styles number
      → first ≡ drawn columns (over met (inked (Style style))) cells
      → last ≡ drawn columns (frame styles screen titles b met) first
      → last ≡ drawn columns (in_order (over met (styled (style_at styles number)) ∷ frame styles screen titles b met ∷ [])) cells
  unfolding inked
  style_and_frame met style first last e p q = first_then columns _ (_ ∷ []) cells first last (rw e at p) q

  module _ (area all met : Rect) (a : all ≡ area_of screen) (m : met ≡ meet area all) (empty : Bool) (f : empty ≡ is_empty met) (some : 0 < columns) where
    met-is_meeting : met ≡ meet area (area_of screen)
    met-is_meeting = rw a at m

    -- an empty meeting draws no cell
    pub frame-left : empty ≡ true → cells ≡ drawn columns (frame_of styles screen titles number b area) cells
    unfolding frame_of
    frame-left g =
        let h : is_empty (meet area (area_of screen)) ≡ true = rw met-is_meeting at (sym f ∙ g) in
        only_spared columns (not (is_empty (meet area (area_of screen)))) _ cells some (rw h)

    -- a non-empty meeting gets the notice's style and the frame
    pub frame_drawn : empty ≡ false → (next : List ℕ)
        → next ≡ drawn columns (in_order (over met (styled (style_at styles number)) ∷ frame styles screen titles b met ∷ [])) cells
        → next ≡ drawn columns (frame_of styles screen titles number b area) cells
    unfolding frame_of
    frame_drawn g next p =
        let h : is_empty (meet area (area_of screen)) ≡ false = rw met-is_meeting at (sym f ∙ g) in
        only_drawn columns (not (is_empty (meet area (area_of screen)))) _ cells some next (rw h) (rw met-is_meeting at p)

-- a screen with cells has a column
pub some_columns : (screen : Screen) (count : ℕ) → HasCells screen count → 0 < screen.columns
some_columns screen count h = h.columns

pub ruleset frame-laws = (style_and_frame, frame-left, frame_drawn, some_columns)

-- the result of `inner_area`
pub inner_of_met : (screen : Screen) (titles : List ℕ) (b : Block) (area all met inner : Rect) → all ≡ area_of screen → met ≡ meet area all
    → inner ≡ inner_of b titles met → inner ≡ inner_area_of screen titles b area
unfolding inner_area_of
inner_of_met screen titles b area all met inner a m e = e ∙ ap (inner_of b titles) (m ∙ ap (meet area) a)
