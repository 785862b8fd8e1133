-- Laws of `in_order` and `only_if`.
use Prim.Native.Nat.{ℕ, ◌<◌}
use mathlib.Core.Path.{◌≡◌, ap, sym, ◌∙◌}
use mathlib.Core.Bool.{Bool, true, false}
use mathlib.Core.List.{List, [], ◌∷◌}
use Rattle.buffer.specs.Drawing.{Drawing, drawn, in_order, only_if}
use Rattle.buffer.proofs.Drawn.{drawn_then, drawn-same, drawn-none}

-- the first of several drawings, then the others
pub first_then : (columns : ℕ) (d : Drawing) (ds : List Drawing) (cells next last : List ℕ) → next ≡ drawn columns d cells → last ≡ drawn columns (in_order ds) next
    → last ≡ drawn columns (in_order (d ∷ ds)) cells
first_then columns d ds cells next last p q = q ∙ ap (drawn columns (in_order ds)) p ∙ drawn_then columns d (in_order ds) cells

-- the last of several drawings
pub last-drawn : (columns : ℕ) (d : Drawing) (cells last : List ℕ) → last ≡ drawn columns d cells → last ≡ drawn columns (in_order (d ∷ [])) cells
last-drawn columns d cells last p = p

module _ (columns : ℕ) (test : Bool) (d : Drawing) (cells : List ℕ) (some : 0 < columns) where
  pub only_drawn : (next : List ℕ) → test ≡ true → next ≡ drawn columns d cells → next ≡ drawn columns (only_if test d) cells
  only_drawn next e p = p ∙ drawn-same columns d (only_if test d) cells some (λ column row cell _. rw e)

  pub only_spared : test ≡ false → cells ≡ drawn columns (only_if test d) cells
  only_spared e = sym (drawn-same columns (only_if test d) (λ column row cell. cell) cells some (λ column row cell _. rw e) ∙ drawn-none columns cells)
