-- Wrapping uses only a glyph's width and whether it is whitespace: renumbering the glyphs renumbers the lines.
use Prim.Native.Nat.{ℕ, zero, suc, ◌+◌, ◌-◌}
use mathlib.Core.Path.{◌≡◌, refl, ap, ◌∙◌}
use mathlib.Core.Bool.{Bool, true, false, cond}
use mathlib.Core.List.{List, [], ◌∷◌, map, map-append}
use native.Mathlib.Omega.{arith}
use lib.Dec.{eqb, leb, ltb}
use lib.ListN.{length, drop}
use Rattle.text.specs.declared.AmbiguousWidth.{AmbiguousWidth}
use Rattle.text.specs.Line.{Glyph, numbered, total}
use Rattle.wrapping.specs.declared.Rule.{Rule}
use Rattle.wrapping.specs.Wrapping.{Pending, empty_pending, empty, Step, is_over_wide, must_join, takes_spaces, gathered, joined, unjoined, full, fitting, after_fitting, emptied, drops, appended, ◌then◌, join_step, emit_step, append_step, step, last_lines, at_least_one, Wrapped, wrap_from, wrap}
use Rattle.wrapping.proofs.LastLines.{last-lines-gathered}

pub cond_map : {A B : Type 0} (h : A → B) (b c : Bool) {x y : B} {x' y' : A} → b ≡ c → x ≡ h x' → y ≡ h y' → cond b x y ≡ h (cond c x' y')
cond_map h b true p q r = rw p q
cond_map h b false p q r = rw p r

empty-map : {A B : Type 0} (h : A → B) (l : List A) → empty (map h l) ≡ empty l
empty-map h [] = refl
empty-map h (x ∷ l) = refl

-- any change f of glyphs that keeps width and whitespace
module _ (f : Glyph → Glyph) (same_width_lem : (g : Glyph) → (f g).width ≡ g.width) (same-space : (g : Glyph) → (f g).whitespace ≡ g.whitespace) where
  abbrev on_pending : Pending → Pending
  on_pending t = record { row = map f t.row; spaces = map f t.spaces; word = map f t.word; solid = t.solid }

  abbrev on_step : Step → Step
  on_step r = record { lines = map (map f) r.lines; dropped = map f r.dropped; pending = on_pending r.pending; done = r.done }

  abbrev pub on_wrapped : Wrapped → Wrapped
  on_wrapped w = record { lines = map (map f) w.lines; dropped = map f w.dropped }

  pub total-map : (l : List Glyph) → total (map f l) ≡ total l
  total-map [] = refl
  total-map (g ∷ l) = rw (same_width_lem g, total-map l)

  fitting-map : (room : ℕ) (l : List Glyph) → fitting room (map f l) ≡ map f (fitting room l)
  fitting-map room [] = refl
  fitting-map room (g ∷ l) =
      let n : room - (f g).width ≡ room - g.width = rw (same_width_lem g) in
      cond_map (map f) _ _ (ap (λ (w : ℕ). leb w room) (same_width_lem g)) (rw (n, fitting-map (room - g.width) l)) refl

  length-map : (l : List Glyph) → length (map f l) ≡ length l
  length-map [] = refl
  length-map (g ∷ l) = rw (length-map l)

  drop-map : (n : ℕ) (l : List Glyph) → drop n (map f l) ≡ map f (drop n l)
  drop-map zero l = refl
  drop-map (suc n) [] = refl
  drop-map (suc n) (g ∷ l) = drop-map n l

  after_map : (room : ℕ) (l : List Glyph) → after_fitting room (map f l) ≡ map f (after_fitting room l)
  after_map room l = rw (fitting-map room l, length-map (fitting room l)) (drop-map (length (fitting room l)) l)

  module _ (u : Rule) (t : Pending) where
    takes_map : takes_spaces u (on_pending t) ≡ takes_spaces u t
    unfolding takes_spaces
    takes_map = rw (empty-map f t.row)

    gathered-map : gathered u (on_pending t) ≡ map f (gathered u t)
    unfolding gathered
    gathered-map =
        let c : cond (takes_spaces u (on_pending t)) (map f t.spaces) [] ≡ map f (cond (takes_spaces u t) t.spaces []) = cond_map (map f) _ _ takes_map refl refl in
        simp (c, map-append f)

    unjoined-map : unjoined u (on_pending t) ≡ map f (unjoined u t)
    unfolding unjoined
    unjoined-map = cond_map (map f) _ _ takes_map refl refl

    joined-map : joined u (on_pending t) ≡ on_pending (joined u t)
    unfolding joined
    joined-map = rw gathered-map

    emptied-map : emptied u (on_pending t) ≡ on_pending (emptied u t)
    unfolding emptied
    emptied-map = rw (total-map t.row, after_map)

    last-map : last_lines u (on_pending t) ≡ map (map f) (last_lines u t)
    last-map =
        let e : empty (gathered u (on_pending t)) ≡ empty (gathered u t) = ap empty gathered-map ∙ empty-map f (gathered u t) in
        rw (last-lines-gathered u (on_pending t), last-lines-gathered u t)
        (cond_map (map (map f)) _ _ e (cond_map (map (map f)) _ _ (empty-map f t.spaces) refl refl) (rw gathered-map))

    module _ (g : Glyph) where
      must_map : must_join u (on_pending t) (f g) ≡ must_join u t g
      unfolding must_join
      must_map = simp (same_width_lem, same-space, total-map, empty-map)

      full-map : full u (on_pending t) (f g) ≡ full u t g
      unfolding full
      full-map = simp (same_width_lem, total-map)

      drops-map : drops (on_pending t) (f g) ≡ drops t g
      unfolding drops
      drops-map = rw (same-space g, empty-map f t.spaces)

      appended-map : appended (on_pending t) (f g) ≡ on_pending (appended t g)
      unfolding appended
      appended-map = cond_map on_pending _ _ (same-space g) (simp (map-append f)) (simp (map-append f))

  -- a step that, given changed glyphs, gives the changed result
  abbrev Changes : (Pending → Step) → (Pending → Step) → Type 0
  Changes one one' = (t : Pending) → one' (on_pending t) ≡ on_step (one t)

  then_map : (one one' other other' : Pending → Step) → Changes one one' → Changes other other' → Changes (one then other) (one' then other')
  unfolding ◌then◌
  then_map one one' other other' p q t =
      let now = one t in
      let e : other' (one' (on_pending t)).pending ≡ on_step (other now.pending) = rw (p t) (q now.pending) in
      cond_map on_step _ now.done (ap (λ (r : Step). r.done) (p t)) (p t) (rw (e, p t, map-append (map f), map-append f))

  module _ (u : Rule) (g : Glyph) where
    join-map : Changes (join_step u g) (join_step u (f g))
    unfolding join_step
    join-map t = cond_map on_step _ _ (must_map u t g) (rw (joined-map u t, unjoined-map u t)) refl

    emit_map : Changes (emit_step u g) (emit_step u (f g))
    unfolding emit_step
    emit_map t =
        let d : drops (emptied u (on_pending t)) (f g) ≡ drops (emptied u t) g = rw (emptied-map u t) (drops-map u (emptied u t) g) in
        let a : cond (drops (emptied u (on_pending t)) (f g)) (f g ∷ []) [] ≡ map f (cond (drops (emptied u t) g) (g ∷ []) []) = cond_map (map f) _ _ d refl refl in
        cond_map on_step _ _ (full-map u t g) (rw (a, d, emptied-map u t, total-map t.row, fitting-map, map-append f)) refl

    append-map : Changes (append_step g) (append_step (f g))
    unfolding append_step
    append-map t = rw (appended-map u t g)

  step_map : (u : Rule) (t : Pending) (g : Glyph) → step u (on_pending t) (f g) ≡ on_step (step u t g)
  unfolding step is_over_wide
  step_map u t g =
      cond_map on_step _ _ (ap (ltb u.limit) (same_width_lem g)) refl
      (then_map _ _ _ _ (join-map u g) (then_map _ _ _ _ (emit_map u g) (append-map u g)) t)

  wrap-from : (u : Rule) (t : Pending) (gs : List Glyph) → wrap_from u (on_pending t) (map f gs) ≡ on_wrapped (wrap_from u t gs)
  wrap-from u t [] = rw (last-map u t, unjoined-map u t)
  wrap-from u t (g ∷ gs) = rw (step_map u t g, wrap-from u (step u t g).pending gs, map-append (map f), map-append f)

  one_map : (ls : List (List Glyph)) → at_least_one (map (map f) ls) ≡ map (map f) (at_least_one ls)
  one_map [] = refl
  one_map (l ∷ ls) = refl

  pub wrap-map : (u : Rule) (gs : List Glyph) → wrap u (map f gs) ≡ on_wrapped (wrap u gs)
  unfolding wrap
  wrap-map u gs = cond_map on_wrapped (eqb u.limit 0) _ refl refl (rw (wrap-from u empty_pending gs, one_map))

abbrev pub renumber : ℕ → Glyph → Glyph
renumber k g = record { number = k + g.number; symbol = g.symbol; width = g.width; whitespace = g.whitespace; style = g.style }

pub numbered-from : (a : AmbiguousWidth) (k i : ℕ) (rs : List ℕ) → numbered a (k + i) rs ≡ map (renumber k) (numbered a i rs)
numbered-from a k i [] = refl
numbered-from a k i (r ∷ rs) =
    let n : suc (k + i) ≡ k + suc i = omega arith in
    rw (n, numbered-from a k (suc i) rs)

module _ (u : Rule) (k : ℕ) (gs : List Glyph) where
  pub lines_renumbered : (wrap u (map (renumber k) gs)).lines ≡ map (map (renumber k)) (wrap u gs).lines
  lines_renumbered = ap (λ (w : Wrapped). w.lines) (wrap-map (renumber k) (λ g. refl) (λ g. refl) u gs)

  pub dropped_renumbered : (wrap u (map (renumber k) gs)).dropped ≡ map (renumber k) (wrap u gs).dropped
  dropped_renumbered = ap (λ (w : Wrapped). w.dropped) (wrap-map (renumber k) (λ g. refl) (λ g. refl) u gs)
