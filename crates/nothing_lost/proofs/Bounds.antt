-- one_cell: if every glyph has width 1, no line is wider than the limit.
-- any_cells: if no glyph is wider than 6, no line is wider than the limit plus 11.
-- numbered-widths: no glyph of a record is read as wider than 6, whatever the record's bits.
use Prim.Native.Nat.{ℕ, suc, ◌+◌, ◌-◌, ◌≤◌, ◌<◌}
use mathlib.Core.Path.{◌≡◌, refl, sym, ap, ◌∙◌}
use mathlib.Core.Bool.{Bool, true, false, cond, not, ◌&&◌, ◌||◌, true≢false, false≢true}
use mathlib.Core.List.{List, [], ◌∷◌, ◌++◌}
use native.Mathlib.Omega.{arith}
use borrow.Author.Tests.{ltb-true, ltb-false, leb-false, lt-ltb}
use lib.Dec.{eqb, leb, ltb}
use Rattle.text.specs.declared.AmbiguousWidth.{AmbiguousWidth}
use Rattle.text.specs.Line.{Glyph, glyph_from, numbered, total}
use Rattle.text.proofs.Reading.{width-most}
use Rattle.text.proofs.Bools.{neither, cond_cases, cases}
use Rattle.wrapping.specs.declared.Rule.{Rule}
use Rattle.wrapping.specs.Wrapping.{Pending, Step, Wrapped, empty, empty_pending, is_over_wide, must_join, takes_spaces, gathered, joined, full, fitting, after_fitting, emptied, appended, step, last_lines, at_least_one, wrap_from, wrap}
use Rattle.nothing_lost.specs.Glyphs.{Widths, NoWider, none, one}
use Rattle.wrapping.proofs.Ways.{filled, appended-ways, filled_ways, step-ways}
use Rattle.wrapping.proofs.Splits.{fitting-split}
use Rattle.wrapping.proofs.ListRuns.{total-append}

pub no_wider-append : {most : ℕ} {a b : List (List Glyph)} → NoWider most a → NoWider most b → NoWider most (a ++ b)
no_wider-append none q = q
no_wider-append (one w p) q = one w (no_wider-append p q)

widths-append : {least most : ℕ} {a b : List Glyph} → Widths least most a → Widths least most b → Widths least most (a ++ b)
widths-append none q = q
widths-append (one l m p) q = one l m (widths-append p q)

widths-right : {least most : ℕ} (a : List Glyph) {b : List Glyph} → Widths least most (a ++ b) → Widths least most b
widths-right [] p = p
widths-right (g ∷ a) (one l m p) = widths-right a p

widths-after : {least most : ℕ} (room : ℕ) (gs : List Glyph) → Widths least most gs → Widths least most (after_fitting room gs)
widths-after room gs z = widths-right (fitting room gs) (rw (fitting-split room gs) at z)

total-after : (room : ℕ) (gs : List Glyph) → total (after_fitting room gs) ≤ total gs
total-after room gs = omega (arith, simp total-append at (ap total (fitting-split room gs)))

empty-total : (gs : List Glyph) → empty gs ≡ true → total gs ≡ 0
empty-total [] e = refl
empty-total (g ∷ gs) e = absurd (false≢true e)

least-total : {least most : ℕ} (gs : List Glyph) → empty gs ≡ false → Widths least most gs → least ≤ total gs
least-total [] e z = absurd (true≢false e)
least-total (g ∷ gs) e (one l m z) = omega arith

module _ (u : Rule) (s : Pending) (g : Glyph) where
  not_full : full u s g ≡ false →
      (total s.row < u.limit) × (0 < g.width → total s.row + total s.spaces + total s.word < u.limit)
  unfolding full
  not_full e = (
    leb-false u.limit (total s.row) (neither _ _ e).0,
    λ h.
        leb-false u.limit (total s.row + total s.spaces + total s.word)
        (rw (lt-ltb 0 g.width h) at (neither (leb u.limit (total s.row)) _ e).1),
  )

  not-joined : must_join u s g ≡ false → empty s.row ≡ true →
      (total s.word + g.width ≤ u.limit) × (u.trim ≡ false → total s.spaces + total s.word + g.width ≤ u.limit)
  unfolding must_join
  not-joined j e = go u.trim (rw e at (neither (g.whitespace && s.solid) _ j).1)
    where
      go : (trim : Bool) →
          cond trim (ltb u.limit (total s.word + g.width) || ltb u.limit (total s.spaces + g.width))
          (ltb u.limit (total s.word + total s.spaces + g.width)) ≡ false →
          (total s.word + g.width ≤ u.limit) × (trim ≡ false → total s.spaces + total s.word + g.width ≤ u.limit)
      go true f = (ltb-false u.limit (total s.word + g.width) (neither _ _ f).0, λ h. absurd (true≢false h))
      go false f = let h = ltb-false u.limit (total s.word + total s.spaces + g.width) f in (omega arith, λ _. omega arith)

-- Bounds on widths: a glyph's is from `least` to `most`. If row isn't empty, row, spaces and word have at most `tight`, as one
-- glyph may be added below the limit. A line has at most `wide`, as row leaves with at least one glyph, and one may be added.
record WidthBounds : Type 0 where
  pub least : ℕ
  pub most : ℕ
  pub tight : ℕ
  pub wide : ℕ

module _ (u : Rule) (bounds : WidthBounds) (t : bounds.tight + 1 ≡ u.limit + bounds.most) (w : bounds.wide + bounds.least ≡ bounds.tight + bounds.most)
    (p : 1 ≤ bounds.most) (o : bounds.least ≤ bounds.most) where
  -- a join to an empty row, with n cells more, is no wider than `wide`
  record Ahead (s : Pending) (n : ℕ) : Type 0 where
    pub word : total s.word + n ≤ bounds.wide
    pub spaces : u.trim ≡ false → total s.spaces + total s.word + n ≤ bounds.wide

  abbrev Tight : Pending → ℕ → Type 0
  Tight s n = empty s.row ≡ false → total s.row + total s.spaces + total s.word + n ≤ bounds.tight

  -- every pending glyph's width is from `least` to `most`
  record WidthsBounded (s : Pending) : Type 0 where
    pub row : Widths bounds.least bounds.most s.row
    pub spaces : Widths bounds.least bounds.most s.spaces
    pub word : Widths bounds.least bounds.most s.word

  -- Invariant of the pending state.
  record PendingBounded (s : Pending) : Type 0 where
    pub sized : WidthsBounded s
    pub ahead : Ahead s 0
    pub below : Tight s 0

  record Narrow (r : Step) : Type 0 where
    pub lines : NoWider bounds.wide r.lines
    pub bounded : PendingBounded r.pending

  gathered-fits : (s : Pending) → PendingBounded s → total (gathered u s) ≤ bounds.wide
  unfolding gathered takes_spaces
  gathered-fits s f = go s.row u.trim f.below f.ahead.spaces
    where
      go : (row : List Glyph) (trim : Bool) → (empty row ≡ false → total row + total s.spaces + total s.word + 0 ≤ bounds.tight)
          → (trim ≡ false → total s.spaces + total s.word + 0 ≤ bounds.wide)
          → total ((row ++ cond (not (empty row) || not trim) s.spaces []) ++ s.word) ≤ bounds.wide
      go [] true k a = omega (arith, f.ahead.word)
      go [] false k a = simp total-append (omega (arith, a refl))
      go (g ∷ row) trim k a = simp total-append (omega (arith, k refl))

  gathered-sized : (s : Pending) → WidthsBounded s → Widths bounds.least bounds.most (gathered u s)
  unfolding gathered
  gathered-sized s z =
      let spaces = cond_cases (λ (gs : List Glyph). Widths bounds.least bounds.most gs) (takes_spaces u s) _ _ (λ _. z.spaces) (λ _. none) in
      widths-append (widths-append z.row spaces) z.word

  module _ (g : Glyph) (l : bounds.least ≤ g.width) (m : g.width ≤ bounds.most) where
    appended-bounded : (s : Pending) → WidthsBounded s → Ahead s g.width → Tight s g.width → PendingBounded (appended s g)
    appended-bounded s z a k =
        appended-ways s g (λ (t : Pending). PendingBounded t)
        (λ _.
        record {
          sized = record { row = z.row; spaces = widths-append z.spaces (one l m none); word = z.word };
          ahead = record { word = omega (arith, a.word); spaces = λ e. simp total-append (omega (arith, a.spaces e)) };
          below = λ e. simp total-append (omega (arith, k e));
        })
        (λ _.
        record {
          sized = record { row = z.row; spaces = z.spaces; word = widths-append z.word (one l m none) };
          ahead = record { word = simp total-append (omega (arith, a.word)); spaces = λ e. simp total-append (omega (arith, a.spaces e)) };
          below = λ e. simp total-append (omega (arith, k e));
        })

    filled-narrow : (s : Pending) → WidthsBounded s → total s.row ≤ bounds.wide → Ahead s g.width →
        (full u s g ≡ false → Tight s g.width) → Narrow (filled u s g)
    unfolding emptied
    filled-narrow s z r a k =
        let left = total-after (u.limit - total s.row) s.spaces in
        let z' : WidthsBounded (emptied u s) = record { row = none; spaces = widths-after _ s.spaces z.spaces; word = z.word } in
        let a' : Ahead (emptied u s) g.width = record { word = a.word; spaces = λ e. omega (arith, a.spaces e) } in
        filled_ways u s g (λ (t : Step). Narrow t)
        (λ _ _.
        let b : Ahead (emptied u s) 0 = record { word = omega (arith, a.word); spaces = λ e. omega (arith, a'.spaces e) } in
        record { lines = one r none; bounded = record { sized = z'; ahead = b; below = λ e. absurd (true≢false e) } })
        (λ _ _. record { lines = one r none; bounded = appended-bounded (emptied u s) z' a' (λ e. absurd (true≢false e)) })
        (λ e. record { lines = none; bounded = appended-bounded s z a (k e) })

    step-narrow : (s : Pending) → PendingBounded s → Narrow (step u s g)
    unfolding is_over_wide joined
    step-narrow s f =
        step-ways u s g (λ (t : Step). Narrow t)
        (λ _. record { lines = none; bounded = f })
        (λ e _.
        let fits = ltb-false u.limit g.width e in
        let n =
        filled-narrow (joined u s) (record { row = gathered-sized s f.sized; spaces = none; word = none }) (gathered-fits s f)
        (record { word = omega arith; spaces = λ _. omega arith }) (λ b _. omega (arith, (not_full u (joined u s) g b).0)) in
        record { lines = n.lines; bounded = n.bounded })
        (λ _ j.
        cases (λ _. Narrow (filled u s g)) (empty s.row)
        (λ e.
        let fits = not-joined u s g j e in
        filled-narrow s f.sized (omega (arith, empty-total s.row e))
        (record { word = omega (arith, fits.0); spaces = λ b. omega (arith, fits.1 b) }) (λ _ h. absurd (true≢false (sym e ∙ h))))
        (λ e.
        let some = least-total s.row e f.sized.row in
        let below = f.below e in
        filled-narrow s f.sized (omega arith) (record { word = omega arith; spaces = λ _. omega arith })
        (λ b _. cases (λ _. total s.row + total s.spaces + total s.word + g.width ≤ bounds.tight) (ltb 0 g.width)
        (λ h. omega (arith, (not_full u s g b).1 (ltb-true 0 g.width h))) (λ h. omega (arith, ltb-false 0 g.width h)))))

  last-narrow : (s : Pending) → PendingBounded s → NoWider bounds.wide (last_lines u s)
  unfolding last_lines
  last-narrow s f =
      no_wider-append
      (cond_cases (λ (lines : List (List Glyph)). NoWider bounds.wide lines) (empty s.row && empty s.word && not (empty s.spaces) && u.trim) _ _
      (λ _. one (omega arith) none) (λ _. none))
      (cond_cases (λ (lines : List (List Glyph)). NoWider bounds.wide lines) (empty (gathered u s)) _ _ (λ _. none) (λ _. one (gathered-fits s f) none))

  from-narrow : (s : Pending) (gs : List Glyph) → Widths bounds.least bounds.most gs → PendingBounded s → NoWider bounds.wide (wrap_from u s gs).lines
  from-narrow s [] z f = last-narrow s f
  from-narrow s (g ∷ gs) (one l m z) f =
      let n = step-narrow g l m s f in
      no_wider-append n.lines (from-narrow (step u s g).pending gs z n.bounded)

  one-narrow : (lines : List (List Glyph)) → NoWider bounds.wide lines → NoWider bounds.wide (at_least_one lines)
  one-narrow [] z = one {line = []} (omega arith) none
  one-narrow (line ∷ lines) z = z

  lines-narrow : (gs : List Glyph) → Widths bounds.least bounds.most gs → NoWider bounds.wide (wrap u gs).lines
  unfolding wrap
  lines-narrow gs z =
      cond_cases (λ (w : Wrapped). NoWider bounds.wide w.lines) (eqb u.limit 0) _ _ (λ _. none)
      (λ _.
      one-narrow (wrap_from u empty_pending gs).lines
      (from-narrow empty_pending gs z
      (record {
        sized = record { row = none; spaces = none; word = none };
        ahead = record { word = omega arith; spaces = λ _. omega arith };
        below = λ e. absurd (true≢false e);
      })))

pub one_cell : (u : Rule) (gs : List Glyph) → Widths 1 1 gs → NoWider u.limit (wrap u gs).lines
one_cell u =
    lines-narrow u (record { least = 1; most = 1; tight = u.limit; wide = u.limit }) refl refl (omega arith) (omega arith)

pub any_cells : (u : Rule) (gs : List Glyph) → Widths 0 6 gs → NoWider (u.limit + 11) (wrap u gs).lines
any_cells u =
    lines-narrow u (record { least = 0; most = 6; tight = u.limit + 5; wide = u.limit + 11 })
    (omega arith) (omega arith) (omega arith) (omega arith)

pub numbered-widths : (a : AmbiguousWidth) (k : ℕ) (rs : List ℕ) → Widths 0 6 (numbered a k rs)
numbered-widths a k [] = none
numbered-widths a k (r ∷ rs) = one {g = glyph_from a k r} (omega arith) (width-most a r) (numbered-widths a (suc k) rs)
