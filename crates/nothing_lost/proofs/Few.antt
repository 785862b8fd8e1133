-- lines-few: a text line gives no more lines than it has glyphs, or one line.
use Prim.Native.Nat.{ℕ, suc, ◌+◌, ◌≤◌, ◌<◌, max}
use mathlib.Core.Path.{◌≡◌, refl, sym, ◌∙◌}
use mathlib.Core.Bool.{Bool, true, false, cond, not, ◌&&◌, ◌||◌, and-false, false≢true}
use mathlib.Core.List.{List, [], ◌∷◌, ◌++◌}
use native.Mathlib.Omega.{arith}
use borrow.Author.Tests.{eqb-false, lt-leb}
use lib.Dec.{eqb}
use lib.ListN.{length, length-append}
use Rattle.text.specs.Line.{Glyph, total}
use Rattle.wrapping.specs.declared.Rule.{Rule}
use Rattle.wrapping.specs.Wrapping.{Pending, Step, Wrapped, empty, empty_pending, takes_spaces, gathered, joined, full, step, last_lines, at_least_one, wrap_from, wrap}
use Rattle.text.proofs.Bools.{cond_cases}
use Rattle.wrapping.proofs.Ways.{filled, filled_ways, step-ways}

-- a glyph emits at most one line
filled-few : (u : Rule) (s : Pending) (g : Glyph) → length (filled u s g).lines ≤ 1
filled-few u s g =
    filled_ways u s g (λ (t : Step). length t.lines ≤ 1)
    (λ _ _. omega arith) (λ _ _. omega arith) (λ _. omega arith)

step-few : (u : Rule) (s : Pending) (g : Glyph) → length (step u s g).lines ≤ 1
step-few u s g =
    step-ways u s g (λ (t : Step). length t.lines ≤ 1)
    (λ _. omega arith) (λ _ _. filled-few u (joined u s) g) (λ _ _. filled-few u s g)

-- the text line's end emits at most one line: if it emits the empty line for dropped spaces, nothing is gathered
last-few : (u : Rule) (s : Pending) → length (last_lines u s) ≤ 1
unfolding last_lines gathered takes_spaces
last-few u s = go s.row s.spaces s.word u.trim
  where
    gathers : (line : List Glyph) → length (cond (empty line) [] (line ∷ [])) ≤ 1
    gathers [] = omega arith
    gathers (g ∷ line) = omega arith

    go : (row spaces word : List Glyph) (trim : Bool) →
        length (cond (empty row && empty word && not (empty spaces) && trim) ([] ∷ []) []
        ++ cond (empty ((row ++ cond (not (empty row) || not trim) spaces []) ++ word)) []
        (((row ++ cond (not (empty row) || not trim) spaces []) ++ word) ∷ [])) ≤ 1
    go (g ∷ row) spaces word trim = omega arith
    go [] spaces (g ∷ word) trim = gathers (cond (not trim) spaces [] ++ (g ∷ word))
    go [] [] [] trim = gathers (cond (not trim) [] [] ++ [])
    go [] (g ∷ spaces) [] true = omega arith
    go [] (g ∷ spaces) [] false = omega arith

from-few : (u : Rule) (s : Pending) (gs : List Glyph) → length (wrap_from u s gs).lines ≤ suc (length gs)
from-few u s [] = last-few u s
from-few u s (g ∷ gs) =
    omega (
      arith,
      length-append (step u s g).lines (wrap_from u (step u s g).pending gs).lines,
      step-few u s g,
      from-few u (step u s g).pending gs,
    )

one-few : (n : ℕ) (lines : List (List Glyph)) → length lines ≤ max 1 n → length (at_least_one lines) ≤ max 1 n
one-few n [] h = omega arith
one-few n (line ∷ lines) h = h

-- the first glyph emits no line: what is pending then has width 0, below the limit
unfilled : (u : Rule) (s : Pending) (g : Glyph) → 0 < u.limit → total s.row + total s.spaces + total s.word ≡ 0 →
    (filled u s g).lines ≡ []
unfolding full
unfilled u s g h e =
    let f : full u s g ≡ false = simp (lt-leb u.limit (total s.row) (omega arith), e, lt-leb u.limit 0 h, and-false) in
    filled_ways u s g (λ (t : Step). t.lines ≡ [])
    (λ b _. absurd (false≢true (sym f ∙ b))) (λ b _. absurd (false≢true (sym f ∙ b))) (λ _. refl)

first-none : (u : Rule) (g : Glyph) → 0 < u.limit → (step u empty_pending g).lines ≡ []
unfolding joined gathered takes_spaces
first-none u g h =
    step-ways u empty_pending g (λ (t : Step). t.lines ≡ [])
    (λ _. refl)
    (λ _ _. unfilled u (joined u empty_pending) g h (go u.trim))
    (λ _ _. unfilled u empty_pending g h refl)
  where
    go : (trim : Bool) → total (cond (not trim) [] [] ++ []) + 0 + 0 ≡ 0
    go true = refl
    go false = refl

pub lines-few : (u : Rule) (gs : List Glyph) → length (wrap u gs).lines ≤ max 1 (length gs)
unfolding wrap
lines-few u gs =
    cond_cases (λ (w : Wrapped). length w.lines ≤ max 1 (length gs)) (eqb u.limit 0) _ _
    (λ _. omega arith) (λ e. one-few (length gs) (wrap_from u empty_pending gs).lines (go gs (eqb-false u.limit 0 e)))
  where
    go : (gs : List Glyph) → (u.limit ≡ 0 → ⊥) → length (wrap_from u empty_pending gs).lines ≤ max 1 (length gs)
    go [] h = omega (arith, last-few u empty_pending)
    go (g ∷ gs) h = rw (first-none u g (omega arith)) (omega (arith, from-few u (step u empty_pending g).pending gs))
