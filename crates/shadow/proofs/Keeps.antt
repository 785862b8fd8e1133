-- Cells that a shadow doesn't change: the block's own cells, and every cell if the shadow's area is empty.
use Prim.Native.Nat.{ℕ}
use mathlib.Core.Path.{◌≡◌, refl, ◌∙◌}
use mathlib.Core.Bool.{Bool, true, false}
use mathlib.Core.List.{List}
use lib.IntN.{ℤ}
use Rattle.cell.specs.Cell.{with_symbol}
use Rattle.layout.specs.declared.Rect.{Rect}
use Rattle.layout.specs.Rect.{is_empty, contains}
use Rattle.block.specs.declared.Effect.{Effect}
use Rattle.block.specs.declared.Effect.TheVariants.{Overlay, Symbol}
use Rattle.block.specs.declared.Shadow.{Shadow}
use Rattle.block.specs.declared.Shadow.TheVariants.{Absent, Present}
use Rattle.buffer.specs.declared.Screen.{Screen}
use Rattle.buffer.specs.Drawing.{Drawing, sparing}
use Rattle.buffer.proofs.Over.{over-empty, sparing-inside, sparing-outside}
use Rattle.shadow.specs.Shadow.{shadow_area, only_outside, effect_of, shadow_of}

-- a cell that a drawing doesn't change isn't changed by the drawing that spares a rectangle either
sparing_leaves : (r : Rect) (d : Drawing) (column row cell : ℕ) → d column row cell ≡ cell → sparing r d column row cell ≡ cell
sparing_leaves r d column row cell h = go (contains r column row) refl
  where
    go : (b : Bool) → contains r column row ≡ b → sparing r d column row cell ≡ cell
    go true e = sparing-inside r d column row cell e
    go false e = sparing-outside r d column row cell e ∙ h

-- no drawing on a shadow's cells changes this cell
abbrev Unchanged : Rect → Rect → ℕ → ℕ → Type 0
Unchanged base area column row = (f : ℕ → ℕ) (cell : ℕ) → only_outside base area f column row cell ≡ cell

-- then the shadow's effect doesn't change it
effect_leaves : (base area : Rect) (effect : Effect) (column row cell : ℕ) → Unchanged base area column row → effect_of base area effect column row cell ≡ cell
effect_leaves base area Overlay column row cell h = refl
effect_leaves base area (Symbol symbol) column row cell h = h (with_symbol symbol) cell

-- and neither does the shadow
present_leaves : (styles : List ℕ) (screen : Screen) (base : Rect) (effect : Effect) (style : ℕ) (x y : ℤ) (column row cell : ℕ)
    → Unchanged base (shadow_area screen base x y) column row → shadow_of styles screen base (Present effect style x y) column row cell ≡ cell
unfolding shadow_of
present_leaves styles screen base effect style x y column row cell h =
    effect_leaves base (shadow_area screen base x y) effect column row _ h ∙ h _ cell

-- a shadow doesn't change the block's own cells
pub shadow_spares : (styles : List ℕ) (screen : Screen) (base : Rect) (shadow : Shadow) (column row cell : ℕ) → contains base column row ≡ true
    → shadow_of styles screen base shadow column row cell ≡ cell
unfolding shadow_of
shadow_spares styles screen base Absent column row cell h = refl
shadow_spares styles screen base (Present effect style x y) column row cell h =
    present_leaves styles screen base effect style x y column row cell (λ f c. sparing-inside base _ column row c h)

-- a shadow whose area is empty changes no cell
pub shadow_empty : (styles : List ℕ) (screen : Screen) (base : Rect) (effect : Effect) (style : ℕ) (x y : ℤ) (column row cell : ℕ)
    → is_empty (shadow_area screen base x y) ≡ true → shadow_of styles screen base (Present effect style x y) column row cell ≡ cell
shadow_empty styles screen base effect style x y column row cell h =
    present_leaves styles screen base effect style x y column row cell
    (λ f c. sparing_leaves base _ column row c (over-empty (shadow_area screen base x y) f column row c h))
