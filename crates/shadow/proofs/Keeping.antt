-- What a shadow keeps of a cell: everything outside its area, and in its area what styles and symbols keep.
use Prim.Native.Nat.{ℕ}
use mathlib.Core.Path.{◌≡◌, refl}
use mathlib.Core.Bool.{Bool, true, false}
use mathlib.Core.List.{List, [], ◌∷◌}
use Rattle.cell.specs.Cell.{with_symbol, styled}
use Rattle.layout.specs.declared.Rect.{Rect}
use Rattle.layout.specs.Rect.{contains}
use Rattle.block.specs.declared.Effect.{Effect}
use Rattle.block.specs.declared.Effect.TheVariants.{Overlay, Symbol}
use Rattle.block.specs.declared.Shadow.{Shadow}
use Rattle.block.specs.declared.Shadow.TheVariants.{Absent, Present}
use Rattle.buffer.specs.declared.Screen.{Screen}
use Rattle.buffer.specs.Drawing.{over, style_at}
use Rattle.buffer.proofs.Keeping.{CellKeeps, Keeps, InksKeep, order_keeps, over_keeps, sparing_keeps}
use Rattle.shadow.specs.Shadow.{shadow_area, only_outside, effect_of, shadow_of}

-- whether a cell is in the area of a shadow; an absent one has none
abbrev pub in_shadow : Screen → Rect → Shadow → ℕ → ℕ → Bool
in_shadow screen base Absent column row = false
in_shadow screen base (Present effect style x y) column row = contains (shadow_area screen base x y) column row

module _ (read : ℕ → ℕ) (column row : ℕ) (base : Rect) where
  outside_keeps : (area : Rect) (f : ℕ → ℕ) → (contains area column row ≡ true → CellKeeps read f) → Keeps read (only_outside base area f) column row
  outside_keeps area f h = sparing_keeps read column row base (over area f) (λ _. over_keeps read column row area f h)

  effect_keeps : (area : Rect) (effect : Effect) → (contains area column row ≡ true → InksKeep read) → Keeps read (effect_of base area effect) column row
  effect_keeps area Overlay h = λ cell. refl
  effect_keeps area (Symbol symbol) h = outside_keeps area (with_symbol symbol) (λ here. (h here).symbols symbol)

  pub shadow_keeps : (styles : List ℕ) (screen : Screen) (shadow : Shadow) → (in_shadow screen base shadow column row ≡ true → InksKeep read)
      → Keeps read (shadow_of styles screen base shadow) column row
  unfolding shadow_of
  shadow_keeps styles screen Absent h = λ cell. refl
  shadow_keeps styles screen (Present effect style x y) h =
      let area = shadow_area screen base x y in
      order_keeps read column row (only_outside base area (styled (style_at styles style)) ∷ effect_of base area effect ∷ []) (
        outside_keeps area (styled (style_at styles style)) (λ here. (h here).styles (style_at styles style)),
        (effect_keeps area effect h, tt),
      )
