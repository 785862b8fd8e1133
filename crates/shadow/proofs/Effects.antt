-- Drawing a shadow: one law for each path through the code.
use Prim.Native.Nat.{ℕ}
use mathlib.Core.Path.{◌≡◌, refl, sym, ◌∙◌}
use mathlib.Core.Bool.{Bool, true, false}
use mathlib.Core.List.{List, [], ◌∷◌}
use lib.IntN.{ℤ}
use mir.Facts.{to_z-of_z}
use Rattle.cell.specs.Cell.{with_symbol, styled}
use Rattle.layout.specs.declared.Rect.{Rect}
use Rattle.layout.specs.Rect.{is_empty, offset_by}
use Rattle.block.specs.declared.Effect.{Effect}
use Rattle.block.specs.declared.Effect.TheVariants.{Overlay, Symbol}
use Rattle.block.specs.declared.Shadow.{Shadow}
use Rattle.block.specs.declared.Shadow.TheVariants.{Absent, Present}
use Rattle.buffer.specs.declared.Ink.TheVariants.{Style, Symbol as SymbolInk}
use Rattle.buffer.specs.declared.Screen.{Screen}
use Rattle.buffer.specs.Drawing.{drawn, in_order, style_at}
use Rattle.buffer.specs.InkExtra.{inked, SymbolFits}
use Rattle.buffer.specs.PartsExtra.{OnScreen}
use Rattle.buffer.proofs.Drawn.{drawn_also, drawn-same, drawn-none}
use Rattle.buffer.proofs.OnScreen.{meeting_on_screen}
use Rattle.shadow.specs.Shadow.{shadow_area, only_outside, effect_of, shadow_of}
use Rattle.shadow.specs.FittingExtra.{EffectFits, ShadowFits}
use Rattle.shadow.proofs.Keeps.{shadow_empty}

-- a style ink sets the style
style_ink : (style : ℕ) → inked (Style style) ≡ styled style
unfolding inked
style_ink style = refl

-- a symbol ink sets the symbol
symbol_ink : (symbol : ℕ) → inked (SymbolInk symbol) ≡ with_symbol symbol
unfolding inked
symbol_ink symbol = refl

module _ (columns : ℕ) (base area : Rect) (effect : Effect) (cells : List ℕ) where
  -- an overlay draws nothing
  pub overlay_drawn : effect ≡ Overlay → cells ≡ drawn columns (effect_of base area effect) cells
  overlay_drawn e = rw e (sym (drawn-none columns cells))

  -- a symbol effect draws its symbol
  pub symbol-drawn : (symbol : ℕ) (next : List ℕ) → effect ≡ Symbol symbol → next ≡ drawn columns (only_outside base area (inked (SymbolInk symbol))) cells
      → next ≡ drawn columns (effect_of base area effect) cells
  symbol-drawn symbol next e p = rw e (rw symbol_ink at p)

  -- the style, then the effect
  pub cells-drawn : (style : ℕ) (next last : List ℕ) → next ≡ drawn columns (only_outside base area (inked (Style style))) cells
      → last ≡ drawn columns (effect_of base area effect) next
      → last ≡ drawn columns (in_order (only_outside base area (styled style) ∷ effect_of base area effect ∷ [])) cells
  cells-drawn style next last p q = drawn_also columns (only_outside base area (styled style)) (effect_of base area effect) cells next last (rw style_ink at p) q

-- the symbol of an effect that fits has at most 21 bits
pub effect_fits : (effect : Effect) (symbol : ℕ) → effect ≡ Symbol symbol → EffectFits effect → SymbolFits (SymbolInk symbol)
effect_fits effect symbol e h = rw e at h

pub ruleset effects = (overlay_drawn, symbol-drawn, cells-drawn, effect_fits)

module _ (styles : List ℕ) (s : Screen) (base : Rect) (shadow : Shadow) (cells : List ℕ) where
  -- an absent shadow draws nothing
  pub absent_drawn : shadow ≡ Absent → cells ≡ drawn s.columns (shadow_of styles s base shadow) cells
  unfolding shadow_of
  absent_drawn e = rw e (sym (drawn-none s.columns cells))

  -- the shadow's area was computed from the offsets a and b, which equal its x and y
  module _ (effect : Effect) (style : ℕ) (x y a b : ℤ) (area : Rect) where
    -- if the area is empty, nothing is drawn
    pub empty-drawn : (n : ℕ) (test : Bool) → shadow ≡ Present effect style x y → area ≡ shadow_area s base a b → a ≡ x → b ≡ y → test ≡ is_empty area → test ≡ true
        → OnScreen s n base → cells ≡ drawn s.columns (shadow_of styles s base shadow) cells
    empty-drawn n test e p q r t h on =
        let none : is_empty (shadow_area s base x y) ≡ true = rw (p, q, r) at (sym t ∙ h) in
        sym (drawn-same s.columns _ (λ column row cell. cell) cells on.columns
        (λ column row cell _. rw e (shadow_empty styles s base effect style x y column row cell none))
        ∙ drawn-none s.columns cells)

    -- otherwise its cells are drawn
    pub present_drawn : (look : ℕ) (next : List ℕ) → shadow ≡ Present effect style x y → area ≡ shadow_area s base a b → a ≡ x → b ≡ y → look ≡ style_at styles style
        → next ≡ drawn s.columns (in_order (only_outside base area (styled look) ∷ effect_of base area effect ∷ [])) cells
        → next ≡ drawn s.columns (shadow_of styles s base shadow) cells
    unfolding shadow_of
    present_drawn look next e p q r t h = rw (e, ← q, ← r, ← p, ← t) h

-- a non-empty shadow area lies on the screen
pub shadow_on_screen : (s : Screen) (n : ℕ) (base area : Rect) (x y : ℤ) (test : Bool) → area ≡ shadow_area s base x y → test ≡ is_empty area → test ≡ false
    → OnScreen s n base → OnScreen s n area
shadow_on_screen s n base area x y test e t h on = meeting_on_screen s n area on.columns on.size (offset_by base x y) e (sym t ∙ h)

-- if a shadow's symbol fits a cell, so does its effect's
pub shadow_fits : (shadow : Shadow) (effect : Effect) (style : ℕ) (x y : ℤ) → shadow ≡ Present effect style x y → ShadowFits shadow → EffectFits effect
shadow_fits shadow effect style x y e h = rw e at h

pub ruleset shadows = (absent_drawn, empty-drawn, present_drawn, shadow_on_screen, shadow_fits, to_z-of_z)
