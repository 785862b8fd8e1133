-- any_breaks: whatever the tests of steps 2 and 3, the solid glyphs of the lines, in order, are those of the text line that are no
-- wider than the limit, and every dropped glyph is whitespace.
-- step-by-document, wrap-by-document: with the tests of document 01 the steps are those of document 01.
use Prim.Native.Nat.{ℕ, ◌-◌, ◌<◌}
use mathlib.Core.Path.{◌≡◌, refl, sym, ap, ◌∙◌}
use mathlib.Core.Bool.{Bool, true, false, cond, false≢true}
use mathlib.Core.List.{List, [], ◌∷◌, ◌++◌, append_assoc, append-nil}
use native.Mathlib.Omega.{arith}
use borrow.Author.Tests.{ne_eqb}
use lib.Dec.{eqb}
use Rattle.text.specs.Line.{Glyph, total}
use Rattle.text.proofs.Bools.{cond_cases}
use Rattle.wrapping.specs.declared.Rule.{Rule}
use Rattle.wrapping.specs.Wrapping.{Pending, Step, Wrapped, empty_pending, silent, ◌then◌, is_over_wide, takes_spaces, gathered, joined, unjoined, join_step, fitting, after_fitting, emptied, drops, emit_step, append_step, step, wrap_from, wrap, not_over_wide}
use Rattle.wrapping.proofs.Ways.{appended-ways, drops-whitespace}
use Rattle.wrapping.proofs.Splits.{fitting-split}
use Rattle.nothing_lost.specs.Glyphs.{solids, glyphs_of_all}
use Rattle.nothing_lost.specs.Breaks.{Tests, document_tests, join_step_by, emit_step_by, step_by, wrap_from_by, wrap_by}
use Rattle.nothing_lost.proofs.Lists.{glyphs-append, solids-append}
use Rattle.nothing_lost.proofs.Steps.{last-gathers, at-least-one-glyphs}

both_nil : (a b : List Glyph) → a ++ b ≡ [] → (a ≡ []) × (b ≡ [])
both_nil [] b e = (refl, e)
both_nil (g ∷ a) b e = let z : ◌≡◌ {A = ℕ} 0 1 = cc in absurd (omega arith)

fitting-solids : (room : ℕ) (gs : List Glyph) → solids gs ≡ [] → (solids (fitting room gs) ≡ []) × (solids (after_fitting room gs) ≡ [])
fitting-solids room gs e =
    both_nil (solids (fitting room gs)) (solids (after_fitting room gs))
    (sym (solids-append (fitting room gs) (after_fitting room gs)) ∙ ap solids (sym (fitting-split room gs)) ∙ e)

-- pending solid glyphs, if spaces has none
unfoldable held : Pending → List Glyph
held s = solids s.row ++ solids s.word

-- A step keeps the solid glyphs: those of its lines and those pending after it are those pending before it and the new ones.
record Keeps (before new : List Glyph) (r : Step) : Type 0 where
  pub same : solids (glyphs_of_all r.lines) ++ held r.pending ≡ before ++ new
  pub blank : solids r.pending.spaces ≡ []
  pub gone : solids r.dropped ≡ []

silent_keeps : (s : Pending) → solids s.spaces ≡ [] → Keeps (held s) [] (silent s)
silent_keeps s blank = record { same = sym (append-nil (held s)); blank = blank; gone = refl }

-- One step and another keep the glyphs if both do. The new ones are the other step's: if it isn't taken there must be none.
then_keeps : (new : List Glyph) (one other : Pending → Step) (s : Pending) → Keeps (held s) [] (one s) → ((one s).done ≡ true → new ≡ []) →
    ((p : Pending) → solids p.spaces ≡ [] → Keeps (held p) new (other p)) → Keeps (held s) new ((one then other) s)
unfolding ◌then◌
then_keeps new one other s k nothing more =
    let l = more (one s).pending k.blank in
    cond_cases (λ (r : Step). Keeps (held s) new r) (one s).done _ _
    (λ d. rw (nothing d) k)
    (λ _.
    record {
      same = simp (glyphs-append, solids-append, append_assoc, l.same) (rw (← append_assoc, k.same, append-nil));
      blank = l.blank;
      gone = simp (solids-append, k.gone) l.gone;
    })

module _ (u : Rule) (s : Pending) (blank : solids s.spaces ≡ []) where
  gathered-solids : solids (gathered u s) ≡ held s
  unfolding held gathered
  gathered-solids = go (takes_spaces u s)
    where
      go : (b : Bool) → solids ((s.row ++ cond b s.spaces []) ++ s.word) ≡ held s
      go true = simp (solids-append, blank, append-nil)
      go false = simp (solids-append, append-nil)

  unjoined-solids : solids (unjoined u s) ≡ []
  unfolding unjoined
  unjoined-solids = cond_cases (λ (gs : List Glyph). solids gs ≡ []) (takes_spaces u s) _ _ (λ _. refl) (λ _. blank)

module _ (t : Tests) (u : Rule) (g : Glyph) where
  join_keeps : (s : Pending) → solids s.spaces ≡ [] → Keeps (held s) [] (join_step_by t u g s)
  unfolding join_step_by joined held
  join_keeps s blank =
      cond_cases (λ (r : Step). Keeps (held s) [] r) (t.join u s g) _ _
      (λ _. record { same = simp (append-nil, gathered-solids u s blank); blank = refl; gone = unjoined-solids u s blank })
      (λ _. silent_keeps s blank)

  -- step 2 doesn't end the glyph's steps; step 3 does if the glyph is whitespace
  join_goes_on : (s : Pending) → (join_step_by t u g s).done ≡ false
  unfolding join_step_by
  join_goes_on s = cond_cases (λ (r : Step). r.done ≡ false) (t.join u s g) _ _ (λ _. refl) (λ _. refl)

  emit_ends-blank : (s : Pending) → (emit_step_by t u g s).done ≡ true → solids (g ∷ []) ≡ []
  unfolding emit_step_by
  emit_ends-blank s =
      cond_cases (λ (r : Step). r.done ≡ true → solids (g ∷ []) ≡ []) (t.full u s g) _ _
      (λ _ d. rw (drops-whitespace (emptied u s) g d))
      (λ _ d. absurd (false≢true d))

  emit_keeps : (s : Pending) → solids s.spaces ≡ [] → Keeps (held s) [] (emit_step_by t u g s)
  unfolding emit_step_by emptied held
  emit_keeps s blank =
      let parts = fitting-solids (u.limit - total s.row) s.spaces blank in
      cond_cases (λ (r : Step). Keeps (held s) [] r) (t.full u s g) _ _
      (λ _.
      record {
        same = simp append-nil;
        blank = parts.1;
        gone = simp (solids-append, parts.0)
            (cond_cases (λ (gs : List Glyph). solids gs ≡ []) (drops (emptied u s) g) _ _
            (λ d. rw (drops-whitespace (emptied u s) g d)) (λ _. refl));
      })
      (λ _. silent_keeps s blank)

  append_keeps : (s : Pending) → solids s.spaces ≡ [] → Keeps (held s) (solids (g ∷ [])) (append_step g s)
  unfolding append_step held
  append_keeps s blank =
      appended-ways s g (λ (p : Pending). Keeps (held s) (solids (g ∷ [])) (silent p))
      (λ e. record { same = simp (e, append-nil); blank = simp (solids-append, blank, e); gone = refl })
      (λ e. record { same = simp (solids-append, append_assoc); blank = blank; gone = refl })

  step_keeps : (s : Pending) → solids s.spaces ≡ [] → Keeps (held s) (solids (not_over_wide u (g ∷ []))) (step_by t u s g)
  unfolding step_by
  step_keeps s blank =
      cond_cases (λ (r : Step). Keeps (held s) (solids (not_over_wide u (g ∷ []))) r) (is_over_wide u g) _ _
      (λ o. rw o (silent_keeps s blank))
      (λ o.
      rw o
      (then_keeps (solids (g ∷ [])) (join_step_by t u g) (emit_step_by t u g then append_step g) s (join_keeps s blank)
      (λ d. absurd (false≢true (sym (join_goes_on s) ∙ d)))
      (λ p b. then_keeps (solids (g ∷ [])) (emit_step_by t u g) (append_step g) p (emit_keeps p b) (emit_ends-blank p) append_keeps)))

skip_first : (u : Rule) (g : Glyph) (gs : List Glyph) →
    solids (not_over_wide u (g ∷ gs)) ≡ solids (not_over_wide u (g ∷ [])) ++ solids (not_over_wide u gs)
skip_first u g gs = go (is_over_wide u g)
  where
    go : (b : Bool) → solids (cond b (not_over_wide u gs) (g ∷ not_over_wide u gs)) ≡ solids (cond b [] (g ∷ [])) ++ solids (not_over_wide u gs)
    go true = refl
    go false = solids-append (g ∷ []) (not_over_wide u gs)

-- wrapping the remaining glyphs keeps the solid ones
record Kept (before new : List Glyph) (w : Wrapped) : Type 0 where
  pub same : solids (glyphs_of_all w.lines) ≡ before ++ new
  pub gone : solids w.dropped ≡ []

from_keeps : (t : Tests) (u : Rule) (s : Pending) (gs : List Glyph) → solids s.spaces ≡ [] →
    Kept (held s) (solids (not_over_wide u gs)) (wrap_from_by t u s gs)
from_keeps t u s [] blank =
    record { same = simp (last-gathers, gathered-solids u s blank, append-nil); gone = unjoined-solids u s blank }
from_keeps t u s (g ∷ gs) blank =
    let k = step_keeps t u g s blank in
    let l = from_keeps t u (step_by t u s g).pending gs k.blank in
    record {
      same = simp (glyphs-append, solids-append, l.same, ← append_assoc, k.same, skip_first u g gs);
      gone = simp (solids-append, k.gone) l.gone;
    }

-- also at limit 0, where nothing is dropped
pub any_breaks_dropped : (t : Tests) (u : Rule) (gs : List Glyph) → solids (wrap_by t u gs).dropped ≡ []
unfolding wrap_by
any_breaks_dropped t u gs =
    cond_cases (λ (w : Wrapped). solids w.dropped ≡ []) (eqb u.limit 0) _ _
    (λ _. refl) (λ _. (from_keeps t u empty_pending gs refl).gone)

pub any_breaks : (t : Tests) (u : Rule) (gs : List Glyph) → 0 < u.limit →
    (solids (glyphs_of_all (wrap_by t u gs).lines) ≡ solids (not_over_wide u gs)) × (solids (wrap_by t u gs).dropped ≡ [])
unfolding wrap_by held
any_breaks t u gs h = (
  rw (ne_eqb u.limit 0 (λ (e : u.limit ≡ 0). omega arith), at-least-one-glyphs) (from_keeps t u empty_pending gs refl).same,
  any_breaks_dropped t u gs,
)

pub step_by_document : (u : Rule) (s : Pending) (g : Glyph) → step_by document_tests u s g ≡ step u s g
unfolding step_by step join_step_by join_step emit_step_by emit_step document_tests
step_by_document u s g = refl

from_by_document : (u : Rule) (s : Pending) (gs : List Glyph) → wrap_from_by document_tests u s gs ≡ wrap_from u s gs
from_by_document u s [] = refl
from_by_document u s (g ∷ gs) = rw (step_by_document u s g, from_by_document u (step u s g).pending gs)

pub wrap_by_document : (u : Rule) (gs : List Glyph) → wrap_by document_tests u gs ≡ wrap u gs
unfolding wrap_by wrap
wrap_by_document u gs = rw (from_by_document u empty_pending gs)
