-- The paths through a step of the rules.
use Prim.Native.Nat.{◌-◌}
use mathlib.Core.Path.{◌≡◌, refl}
use mathlib.Core.Bool.{Bool, true, false, cond, and-eq-true_iff}
use mathlib.Core.List.{List, [], ◌∷◌, ◌++◌, append-nil}
use Rattle.text.specs.Line.{Glyph, total}
use Rattle.wrapping.specs.declared.Rule.{Rule}
use Rattle.wrapping.specs.Wrapping.{Pending, Step, silent, is_over_wide, must_join, joined, unjoined, full, drops, fitting, emptied, appended, ◌then◌, join_step, emit_step, append_step, step}
use Rattle.text.proofs.Bools.{cond_cases}

-- step 4 appends a glyph to spaces or word
abbrev pub spaced : Pending → Glyph → Pending
spaced s g = record { row = s.row; spaces = s.spaces ++ (g ∷ []); word = s.word; solid = false }

abbrev pub worded : Pending → Glyph → Pending
worded s g = record { row = s.row; spaces = s.spaces; word = s.word ++ (g ∷ []); solid = true }

pub appended-ways : (s : Pending) (g : Glyph) (P : Pending → Type 0) →
    (g.whitespace ≡ true → P (spaced s g)) → (g.whitespace ≡ false → P (worded s g)) → P (appended s g)
unfolding appended
appended-ways s g P to-spaces to_word = cond_cases P g.whitespace _ _ to-spaces to_word

-- only whitespace is dropped after an emit
pub drops-whitespace : (s : Pending) (g : Glyph) → drops s g ≡ true → g.whitespace ≡ true
unfolding drops
drops-whitespace s g d = ((and-eq-true_iff g.whitespace _).0 d).0

-- steps 3 and 4
abbrev pub filled : Rule → Pending → Glyph → Step
filled u s g = (emit_step u g then append_step g) s

-- row is emitted; dropped are the spaces that fit and `more`
abbrev pub emits : Rule → Pending → List Glyph → Pending → Bool → Step
emits u s more t done =
    record { lines = s.row ∷ []; dropped = fitting (u.limit - total s.row) s.spaces ++ more; pending = t; done = done }

-- steps 2 to 4, if step 2 joins
abbrev pub joining : Rule → Pending → Glyph → Step
joining u s g =
    let next = filled u (joined u s) g in
    record { lines = next.lines; dropped = unjoined u s ++ next.dropped; pending = next.pending; done = next.done }

module _ (u : Rule) (s : Pending) (g : Glyph) (P : Step → Type 0) where
  pub filled_ways :
      (full u s g ≡ true → drops (emptied u s) g ≡ true → P (emits u s (g ∷ []) (emptied u s) true))
      → (full u s g ≡ true → drops (emptied u s) g ≡ false → P (emits u s [] (appended (emptied u s) g) false))
      → (full u s g ≡ false → P (silent (appended s g)))
      → P (filled u s g)
  unfolding ◌then◌ emit_step append_step
  filled_ways drop emit append = cond_cases (λ (r : Step). P (onward r)) (full u s g) _ _ (λ e. go e (drops (emptied u s) g) refl) append
    where
      onward : Step → Step
      onward r =
          cond r.done r
          (record { lines = r.lines ++ []; dropped = r.dropped ++ []; pending = appended r.pending g; done = false })

      go : full u s g ≡ true → (b : Bool) → drops (emptied u s) g ≡ b → P (onward (emits u s (cond b (g ∷ []) []) (emptied u s) b))
      go e true d = drop e d
      go e false d = rw (append-nil (fitting (u.limit - total s.row) s.spaces ++ [])) (emit e d)

  pub step-ways :
      (is_over_wide u g ≡ true → P (silent s))
      → (is_over_wide u g ≡ false → must_join u s g ≡ true → P (joining u s g))
      → (is_over_wide u g ≡ false → must_join u s g ≡ false → P (filled u s g))
      → P (step u s g)
  unfolding step join_step ◌then◌
  step-ways skip join fill =
      cond_cases P (is_over_wide u g) _ _ skip (λ o. cond_cases (λ (r : Step). P (onward r)) (must_join u s g) _ _ (join o) (fill o))
    where
      onward : Step → Step
      onward r =
          let next = filled u r.pending g in
          cond r.done r
          (record { lines = r.lines ++ next.lines; dropped = r.dropped ++ next.dropped; pending = next.pending; done = next.done })
