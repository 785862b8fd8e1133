-- Calls in sequence: painting two rectangles, then painting the area outside another.
use Prim.Native.Nat.{ℕ}
use mathlib.Core.Path.{◌≡◌, ◌∙◌}
use mathlib.Core.List.{List, [], ◌∷◌}
use Rattle.layout.specs.declared.Rect.{Rect}
use Rattle.buffer.specs.declared.Screen.{Screen}
use Rattle.buffer.specs.Drawing.{drawn, over, sparing, in_order}
use Rattle.buffer.specs.PartsExtra.{OnScreen}
use Rattle.buffer.proofs.Drawn.{drawn_also, drawn-same}
use Rattle.paint_outside.specs.AroundExtra.{above, below, left_of, right_from}
use Rattle.paint_outside.proofs.Around.{around}

module _ (s : Screen) (f : ℕ → ℕ) (cells next last : List ℕ) where
  -- two rectangles painted one after the other
  pub both_painted : (a b : Rect) → next ≡ drawn s.columns (over a f) cells → last ≡ drawn s.columns (over b f) next
      → last ≡ drawn s.columns (in_order (over a f ∷ over b f ∷ [])) cells
  both_painted a b h k = drawn_also s.columns (over a f) (over b f) cells next last h k

  -- the parts above and below, then the parts left and right, which are computed by calls
  pub outside_painted : (n : ℕ) (spared area a b l r : Rect) → OnScreen s n area
      → a ≡ above area spared → b ≡ below area spared → l ≡ left_of area spared → r ≡ right_from area spared
      → next ≡ drawn s.columns (in_order (over a f ∷ over b f ∷ [])) cells
      → last ≡ drawn s.columns (in_order (over l f ∷ over r f ∷ [])) next
      → last ≡ drawn s.columns (sparing spared (over area f)) cells
  outside_painted n spared area a b l r on top under left right h k =
      rw (top, under, left, right) at (drawn_also s.columns (in_order (over a f ∷ over b f ∷ [])) (in_order (over l f ∷ over r f ∷ [])) cells next last h k)
      ∙ drawn-same s.columns _ _ cells on.columns (λ column row cell _. around area spared f column row cell)
