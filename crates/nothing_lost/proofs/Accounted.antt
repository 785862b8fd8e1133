-- accounted: for any test on glyphs, a text line has as many glyphs that pass as its emitted, dropped and over-wide ones have.
-- accounted_lengths: the emitted, dropped and over-wide glyphs together are as many as the text line's.
use Prim.Native.Nat.{ℕ, ◌+◌, ◌-◌, ◌≤◌, ◌<◌}
use mathlib.Core.Path.{◌≡◌, refl, sym, ap}
use mathlib.Core.Bool.{Bool, true, false, cond}
use mathlib.Core.List.{List, [], ◌∷◌, ◌++◌, append-nil}
use native.Mathlib.Omega.{arith}
use borrow.Author.Tests.{eqb-false}
use lib.Dec.{eqb}
use lib.ListN.{length}
use Rattle.text.specs.Line.{Glyph, total}
use Rattle.wrapping.specs.declared.Rule.{Rule}
use Rattle.wrapping.specs.Wrapping.{Pending, Step, empty_pending, is_over_wide, takes_spaces, gathered, joined, unjoined, emptied, appended, step, wrap_from, wrap, over_wides}
use Rattle.text.specs.Lists.{count_of}
use Rattle.text.proofs.Lists.{count-append}
use Rattle.nothing_lost.specs.Glyphs.{glyphs_of_all}
use Rattle.text.proofs.Bools.{cases}
use Rattle.nothing_lost.proofs.Lists.{glyphs-append}
use Rattle.nothing_lost.proofs.Steps.{last-gathers, at-least-one-glyphs, wrap-from-empty}
use Rattle.wrapping.proofs.Ways.{filled, appended-ways, filled_ways, step-ways}
use Rattle.wrapping.proofs.Splits.{fitting-split}

module _ (test : Glyph → Bool) where
  -- pending glyphs that pass the test
  unfoldable held : Pending → ℕ
  held s = count_of test s.row + count_of test s.spaces + count_of test s.word

  -- glyphs that pass, of a step's lines, of those it drops, and of those pending after it
  unfoldable after : Step → ℕ
  after t = count_of test (glyphs_of_all t.lines) + count_of test t.dropped + held t.pending

  gathered-count : (u : Rule) (s : Pending) → count_of test (gathered u s) + count_of test (unjoined u s) ≡ held s
  unfolding gathered unjoined held
  gathered-count u s = go (takes_spaces u s)
    where
      go : (b : Bool) → count_of test ((s.row ++ cond b s.spaces []) ++ s.word) + count_of test (cond b [] s.spaces)
          ≡ count_of test s.row + count_of test s.spaces + count_of test s.word
      go true = simp count-append (omega arith)
      go false = simp count-append (omega arith)

  appended-count : (s : Pending) (g : Glyph) → held (appended s g) ≡ held s + count_of test (g ∷ [])
  unfolding held
  appended-count s g =
      appended-ways s g (λ (t : Pending). held t ≡ held s + count_of test (g ∷ []))
      (λ _. simp count-append (omega arith)) (λ _. simp count-append (omega arith))

  filled-count : (u : Rule) (s : Pending) (g : Glyph) → after (filled u s g) ≡ held s + count_of test (g ∷ [])
  unfolding after held emptied
  filled-count u s g =
      let parts = ap (count_of test) (sym (fitting-split (u.limit - total s.row) s.spaces)) in
      filled_ways u s g (λ (t : Step). after t ≡ held s + count_of test (g ∷ []))
      (λ _ _. simp (count-append, append-nil) (omega (arith, simp count-append at parts)))
      (λ _ _. simp append-nil (omega (arith, simp count-append at parts, appended-count (emptied u s) g)))
      (λ _. omega (arith, appended-count s g))

  step_count : (u : Rule) (s : Pending) (g : Glyph) →
      after (step u s g) + count_of test (over_wides u (g ∷ [])) ≡ held s + count_of test (g ∷ [])
  unfolding after held joined
  step_count u s g =
      step-ways u s g (λ (t : Step). after t + count_of test (over_wides u (g ∷ [])) ≡ held s + count_of test (g ∷ []))
      (λ o. rw o (omega arith))
      (λ o _. rw o (simp count-append (omega (arith, filled-count u (joined u s) g, gathered-count u s))))
      (λ o _. rw o (omega (arith, filled-count u s g)))

  over_first : (u : Rule) (g : Glyph) (gs : List Glyph) →
      count_of test (over_wides u (g ∷ gs)) ≡ count_of test (over_wides u (g ∷ [])) + count_of test (over_wides u gs)
  over_first u g gs = go (is_over_wide u g)
    where
      go : (b : Bool) →
          count_of test (cond b (g ∷ over_wides u gs) (over_wides u gs)) ≡ count_of test (cond b (g ∷ []) []) + count_of test (over_wides u gs)
      go true = omega arith
      go false = omega arith

  from-count : (u : Rule) (s : Pending) (gs : List Glyph) →
      count_of test (glyphs_of_all (wrap_from u s gs).lines) + count_of test (wrap_from u s gs).dropped + count_of test (over_wides u gs)
      ≡ held s + count_of test gs
  unfolding after
  from-count u s [] = simp last-gathers (omega (arith, gathered-count u s))
  from-count u s (g ∷ gs) =
      simp (glyphs-append, count-append) (omega (arith, step_count u s g, over_first u g gs, from-count u (step u s g).pending gs))

-- test by record number: one glyph of a text line passes
abbrev pub number_is : ℕ → Glyph → Bool
number_is n g = eqb g.number n

all_counted : (gs : List Glyph) → count_of (λ _. true) gs ≡ length gs
all_counted [] = refl
all_counted (g ∷ gs) = omega (arith, all_counted gs)

module _ (u : Rule) (gs : List Glyph) (h : 0 < u.limit) where
  pub accounted : (test : Glyph → Bool) →
      count_of test (glyphs_of_all (wrap u gs).lines) + count_of test (wrap u gs).dropped + count_of test (over_wides u gs) ≡ count_of test gs
  unfolding held
  accounted test = rw (wrap-from-empty u gs h, at-least-one-glyphs) (omega (arith, from-count test u empty_pending gs))

  pub accounted_lengths : length (glyphs_of_all (wrap u gs).lines) + length (wrap u gs).dropped + length (over_wides u gs) ≡ length gs
  accounted_lengths = simp all_counted at (accounted (λ _. true))

-- wrapping emits no more glyphs than a text line has
pub wrapped-few : (u : Rule) (gs : List Glyph) → length (glyphs_of_all (wrap u gs).lines) ≤ length gs
unfolding wrap
wrapped-few u gs =
    cases (λ _. length (glyphs_of_all (wrap u gs).lines) ≤ length gs) (eqb u.limit 0)
    (λ e. rw e (omega arith))
    (λ e. let n = eqb-false u.limit 0 e in omega (arith, accounted_lengths u gs (omega arith)))
