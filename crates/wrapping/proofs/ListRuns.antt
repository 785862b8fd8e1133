-- The run of a list, and the glyphs of a run.
use Prim.Native.Nat.{ℕ, suc, ◌+◌, ◌-◌, ◌*◌, ◌≤◌, ◌<◌}
use mathlib.Core.Path.{◌≡◌, refl, sym, ap, ◌∙◌}
use mathlib.Core.Bool.{true, false}
use mathlib.Core.List.{List, [], ◌∷◌, ◌++◌, append_assoc, append-nil}
use native.Mathlib.Omega.{arith}
use borrow.Author.Tests.{ne_eqb}
use lib.Dec.{eqb}
use lib.ListN.{length, take, drop}
use lib.Seq.{slice, take-take, length-take-le, length-slice}
use Rattle.text.specs.Line.{Glyph, glyph_from, numbered, total}
use Rattle.wrapping.specs.declared.Run.{Run}
use Rattle.wrapping.specs.declared.Rule.{Rule}
use Rattle.wrapping.specs.Wrapping.{empty, is_over_wide, not_over_wide}
use Rattle.wrapping.specs.RunsExtra.{empty_run, end_from, run_of, glyphs_in, append_run, push_run, Spans}
use Rattle.text.proofs.Reading.{width-most}
use Rattle.text.proofs.Bools.{cond_cases}
use Rattle.wrapping.proofs.RunLaws.{append-first, append_second, append-both, push_first, push_more}

-- ---- the run of a list

pub total-append : (a b : List Glyph) → total (a ++ b) ≡ total a + total b
total-append [] b = omega arith
total-append (g ∷ a) b = omega (arith, total-append a b)

end-append : (e : ℕ) (a b : List Glyph) → end_from e (a ++ b) ≡ end_from (end_from e a) b
end-append e [] b = refl
end-append e (g ∷ a) b = end-append (g.number + 1) a b

end-positive : (e : ℕ) (l : List Glyph) → 0 < e → 0 < end_from e l
end-positive e [] h = h
end-positive e (g ∷ l) h = end-positive (g.number + 1) l (omega arith)

end_more : (g : Glyph) (l : List Glyph) → (run_of (g ∷ l)).end ≡ 0 → ⊥
end_more g l e = omega (arith, end-positive (g.number + 1) l (omega arith))

pub run_empty : (l : List Glyph) → eqb (run_of l).end 0 ≡ empty l
run_empty [] = refl
run_empty (g ∷ l) = ne_eqb (end_from (g.number + 1) l) 0 (end_more g l)

pub run_width : (l : List Glyph) → (run_of l).width ≡ total l
run_width [] = refl
run_width (g ∷ l) = refl

same_run : (f e e' w w' : ℕ) → e ≡ e' → w ≡ w' → ◌≡◌ {A = Run} (record { first = f; end = e; width = w }) (record { first = f; end = e'; width = w' })
same_run f e e' w w' p q = cc

pub run_append : (a b : List Glyph) → run_of (a ++ b) ≡ append_run (run_of a) (run_of b)
run_append [] b = append-first empty_run (run_of b) refl
run_append (g ∷ a) [] = ap run_of (append-nil (g ∷ a)) ∙ append_second (run_of (g ∷ a)) empty_run (end_more g a) refl
run_append (g ∷ a) (k ∷ b) =
    same_run _ _ _ _ _ (end-append (g.number + 1) a (k ∷ b)) (omega (arith, total-append a (k ∷ b)))
    ∙ append-both (run_of (g ∷ a)) (run_of (k ∷ b)) (end_more g a) (end_more k b)

pub run_push : (l : List Glyph) (g : Glyph) → run_of (l ++ (g ∷ [])) ≡ push_run (run_of l) g.number g.width
run_push [] g = same_run _ _ _ _ _ refl (omega arith) ∙ push_first empty_run g.number g.width refl
run_push (k ∷ l) g =
    same_run _ _ _ _ _ (end-append (k.number + 1) l (g ∷ [])) (omega (arith, total-append l (g ∷ [])))
    ∙ push_more (run_of (k ∷ l)) g.number g.width (end_more k l)

-- ---- the glyphs of a run

pub total_bound : (u : Rule) (i : ℕ) (xs : List ℕ) → total (not_over_wide u (numbered u.ambiguous i xs)) ≤ 6 * length xs
total_bound u i [] = omega arith
total_bound u i (x ∷ xs) =
    cond_cases (λ (l : List Glyph). total l ≤ 6 * suc (length xs)) (is_over_wide u (glyph_from u.ambiguous i x)) _ _
    (λ e. omega (arith, total_bound u (suc i) xs))
    (λ e. omega (arith, width-most u.ambiguous x, total_bound u (suc i) xs))

not-empty : (p : List Glyph) (g : Glyph) (l : List Glyph) → [] ≡ p ++ g ∷ l → ⊥
not-empty [] g l e = let z : ◌≡◌ {A = ℕ} 0 1 = cc in omega arith
not-empty (k ∷ p) g l e = let z : ◌≡◌ {A = ℕ} 0 1 = cc in omega arith

-- the records from a glyph's number on
module _ (u : Rule) (g : Glyph) (l : List Glyph) where
  abbrev From : ℕ → List ℕ → Type 0
  From i xs = (i ≤ g.number) × (not_over_wide u (numbered u.ambiguous g.number (drop (g.number - i) xs)) ≡ g ∷ l)

  from-later : (i x : ℕ) (xs : List ℕ) → From (suc i) xs → From i (x ∷ xs)
  from-later i x xs r =
      let n : g.number - i ≡ suc (g.number - suc i) = omega (arith, r.0) in
      (omega (arith, r.0), rw n r.1)

  from-here : (i x : ℕ) (xs : List ℕ) → ((p : List Glyph) → not_over_wide u (numbered u.ambiguous (suc i) xs) ≡ p ++ g ∷ l → From (suc i) xs)
      → is_over_wide u (glyph_from u.ambiguous i x) ≡ false → (p : List Glyph) → glyph_from u.ambiguous i x ∷ not_over_wide u (numbered u.ambiguous (suc i) xs) ≡ p ++ g ∷ l → From i (x ∷ xs)
  from-here i x xs ih b [] f =
      let h : glyph_from u.ambiguous i x ≡ g = cc in
      let n : g.number ≡ i = sym (ap (λ (k : Glyph). k.number) h) in
      let z : i - i ≡ 0 = omega arith in
      (omega arith, ap (λ (j : ℕ). not_over_wide u (numbered u.ambiguous j (drop (j - i) (x ∷ xs)))) n ∙ rw (z, b) f)
  from-here i x xs ih b (k ∷ p) f = from-later i x xs (ih p (cc))

  from-glyph : (i : ℕ) (xs : List ℕ) (p : List Glyph) → not_over_wide u (numbered u.ambiguous i xs) ≡ p ++ g ∷ l → From i xs
  from-glyph i [] p e = absurd (not-empty p g l e)
  from-glyph i (x ∷ xs) p e =
      cond_cases (λ (k : List Glyph). k ≡ p ++ g ∷ l → From i (x ∷ xs)) (is_over_wide u (glyph_from u.ambiguous i x)) _ _
      (λ b f. from-later i x xs (from-glyph (suc i) xs p f))
      (λ b. from-here i x xs (from-glyph (suc i) xs) b p)
      e

-- the records up to a glyph's number, included
module _ (u : Rule) where
  abbrev UpTo : ℕ → List ℕ → List Glyph → Type 0
  UpTo i xs a = (i ≤ end_from i a) × (end_from i a ≤ i + length xs) × (not_over_wide u (numbered u.ambiguous i (take (end_from i a - i) xs)) ≡ a)

  module _ (i x : ℕ) (xs : List ℕ) (g : Glyph) (a : List Glyph) where
    upto_later : is_over_wide u (glyph_from u.ambiguous i x) ≡ true → UpTo (suc i) xs (g ∷ a) → UpTo i (x ∷ xs) (g ∷ a)
    upto_later f r =
        let n : end_from (g.number + 1) a - i ≡ suc (end_from (g.number + 1) a - suc i) = omega (arith, r.0) in
        (omega (arith, r.0), omega (arith, r.1), rw (n, f) r.2)

    upto_here : is_over_wide u (glyph_from u.ambiguous i x) ≡ false → glyph_from u.ambiguous i x ≡ g → UpTo (suc i) xs a → UpTo i (x ∷ xs) (g ∷ a)
    upto_here f h r =
        let m : g.number + 1 ≡ suc i = omega (arith, ap (λ (k : Glyph). k.number) h) in
        let n : end_from (suc i) a - i ≡ suc (end_from (suc i) a - suc i) = omega (arith, r.0) in
        (rw m (omega (arith, r.0)), rw m (omega (arith, r.1)), rw (m, n, f) (cc r.2))

  upto_glyphs : (i : ℕ) (xs : List ℕ) (a b : List Glyph) → not_over_wide u (numbered u.ambiguous i xs) ≡ a ++ b → UpTo i xs a
  upto_glyphs i xs [] b e =
      let n : i - i ≡ 0 = omega arith in
      (omega arith, omega arith, rw n refl)
  upto_glyphs i [] (g ∷ a) b e = absurd (not-empty [] g (a ++ b) e)
  upto_glyphs i (x ∷ xs) (g ∷ a) b e =
      cond_cases (λ (k : List Glyph). k ≡ g ∷ (a ++ b) → UpTo i (x ∷ xs) (g ∷ a)) (is_over_wide u (glyph_from u.ambiguous i x)) _ _
      (λ f q. upto_later i x xs g a f (upto_glyphs (suc i) xs (g ∷ a) b q))
      (λ f q. upto_here i x xs g a f (cc) (upto_glyphs (suc i) xs a b (cc)))
      e

-- a list of glyphs equals the glyphs of its run
pub record Read (u : Rule) (records : List ℕ) (l : List Glyph) : Type 0 where
  pub glyphs : glyphs_in u records (run_of l) ≡ l
  pub spans : Spans u records (run_of l)

pub empty-read : (u : Rule) (records : List ℕ) → Read u records []
unfolding glyphs_in
empty-read u records = record { glyphs = refl; spans = record { glyphs = refl; within = omega arith; ordered = omega arith } }

-- each part of the glyphs read equals the glyphs of its run
pub glyphs_run : (u : Rule) (n : ℕ) (records : List ℕ) (p l q : List Glyph) → n ≤ length records → not_over_wide u (numbered u.ambiguous 0 (take n records)) ≡ p ++ (l ++ q) → Read u records l
unfolding glyphs_in
glyphs_run u n records p [] q h e = empty-read u records
glyphs_run u n records p (g ∷ l) q h e =
    let end : ℕ = end_from (g.number + 1) l in
    let r = upto_glyphs u 0 (take n records) (p ++ g ∷ l) q (rw append_assoc e) in
    let v : end_from 0 (p ++ g ∷ l) - 0 ≡ end = omega (arith, end-append 0 p (g ∷ l)) in
    let w : end ≤ n = omega (arith, r.1, length-take-le n records h) in
    let m : g.number - 0 ≡ g.number = omega arith in
    let x : glyphs_in u records (run_of (g ∷ l)) ≡ g ∷ l = rw m at (from-glyph u g l 0 (take end records) p (rw (v, take-take end n records w) at r.2)).1 in
    let o = upto_glyphs u g.number (drop g.number (take end records)) (g ∷ l) [] (x ∙ sym (append-nil (g ∷ l))) in
    record { glyphs = x; spans = record { glyphs = ap run_of (sym x); within = omega arith; ordered = o.0 } }

pub spans_width : (u : Rule) (records : List ℕ) (line : Run) → Spans u records line → line.width ≤ 6 * length records
unfolding glyphs_in
spans_width u records line h =
    omega (
      arith,
      ap (λ (r : Run). r.width) h.glyphs,
      run_width (glyphs_in u records line),
      total_bound u line.first (slice line.first line.end records),
      length-slice line.first line.end records h.within,
      h.within,
    )
