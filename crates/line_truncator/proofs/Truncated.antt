-- The line of an unwrapped text line: its glyphs are consecutive, equal those of its run, and are no wider than the limit.
use Prim.Native.Nat.{ℕ, ◌+◌, ◌-◌, ◌≤◌, ◌<◌}
use mathlib.Core.Path.{◌≡◌, refl, ap}
use mathlib.Core.Bool.{Bool, true, false, cond, and-eq-true_iff}
use mathlib.Core.List.{List, [], ◌∷◌, ◌++◌, map}
use native.Mathlib.Omega.{arith}
use borrow.Author.Tests.{ltb-true, ltb-false, leb-true}
use lib.Dec.{eqb, leb, ltb}
use lib.ListN.{length}
use lib.Seq.{take-length}
use Rattle.text.specs.declared.Alignment.{Alignment}
use Rattle.text.specs.Line.{Glyph, numbered, total}
use Rattle.wrapping.specs.declared.Rule.{Rule}
use Rattle.wrapping.specs.Wrapping.{is_over_wide, not_over_wide}
use Rattle.line_truncator.specs.Truncation.{offset_of, ends, swallows, shown_from, truncate}
use Rattle.text.proofs.Bools.{cond_cases}
use Rattle.wrapping.proofs.ListRuns.{Read, glyphs_run}
use Rattle.word_wrapper.proofs.Simulation.{ReadAll}
use Rattle.wrapping.proofs.Renumbering.{cond_map, renumber}

-- ---- the glyphs shown are consecutive

-- `part` follows in `all` the glyphs that an offset swallows: their width is at most the offset, and there are none at offset 0.
pub record Contiguous (offset : ℕ) (all part : List Glyph) : Type 0 where
  pub swallowed : List Glyph
  pub rest : List Glyph
  pub split : all ≡ swallowed ++ (part ++ rest)
  pub within : total swallowed ≤ offset
  pub none : offset ≡ 0 → swallowed ≡ []

module _ (offset : ℕ) (g : Glyph) (all part : List Glyph) where
  -- one more glyph is swallowed
  after-swallowed : swallows offset g ≡ true → Contiguous (offset - g.width) all part → Contiguous offset (g ∷ all) part
  unfolding swallows
  after-swallowed e c =
      let f = (and-eq-true_iff (ltb 0 offset) (leb g.width offset)).0 e in
      let p : 0 < offset = ltb-true 0 offset f.0 in
      let q : g.width ≤ offset = leb-true g.width offset f.1 in
      record {
        swallowed = g ∷ c.swallowed;
        rest = c.rest;
        split = cc c.split;
        within = omega (arith, c.within);
        none = λ z. absurd (omega arith);
      }

  -- no glyph is swallowed after the first shown
  after-shown : Contiguous 0 all part → Contiguous offset (g ∷ all) (g ∷ part)
  after-shown c =
      let n : c.swallowed ≡ [] = c.none refl in
      record { swallowed = []; rest = c.rest; split = ap (λ (l : List Glyph). g ∷ l) (rw n at c.split); within = omega arith; none = λ _. refl }

cond_both : {A : Type 0} (P : A → A → Type 0) (b : Bool) (x x' y y' : A) → P x y → P x' y' → P (cond b x x') (cond b y y')
cond_both P true x x' y y' p q = p
cond_both P false x x' y y' p q = q

-- Over-wide glyphs left out, the glyphs shown follow the swallowed ones without a gap.
pub contiguous : (u : Rule) (offset shown : ℕ) (gs : List Glyph) → Contiguous offset (not_over_wide u gs) (shown_from u offset shown gs)
contiguous u offset shown [] = record { swallowed = []; rest = []; split = refl; within = omega arith; none = λ _. refl }
contiguous u offset shown (g ∷ gs) =
    let all = not_over_wide u gs in
    cond_both (Contiguous offset) (is_over_wide u g) _ _ _ _ (contiguous u offset shown gs)
    (cond_cases (Contiguous offset (g ∷ all)) (ends u shown g) _ _
    (λ _. record { swallowed = []; rest = g ∷ all; split = refl; within = omega arith; none = λ _. refl })
    (λ _.
    cond_cases (Contiguous offset (g ∷ all)) (swallows offset g) _ _
    (λ e. after-swallowed offset g all _ e (contiguous u (offset - g.width) shown gs))
    (λ _. after-shown offset g all _ (contiguous u 0 (shown + g.width) gs))))

-- ---- renumbering

shown_renumbered : (u : Rule) (k offset shown : ℕ) (gs : List Glyph) → shown_from u offset shown (map (renumber k) gs) ≡ map (renumber k) (shown_from u offset shown gs)
unfolding is_over_wide ends swallows
shown_renumbered u k offset shown [] = refl
shown_renumbered u k offset shown (g ∷ gs) =
    let f = map (renumber k) in
    cond_map f (is_over_wide u g) _ refl (shown_renumbered u k offset shown gs)
    (cond_map f (ends u shown g) _ refl refl
    (cond_map f (swallows offset g) _ refl (shown_renumbered u k (offset - g.width) shown gs)
    (ap (λ (l : List Glyph). renumber k g ∷ l) (shown_renumbered u k 0 (shown + g.width) gs))))

-- ---- the limit

shown_narrow : (u : Rule) (offset shown : ℕ) (gs : List Glyph) → shown ≤ u.limit → total (shown_from u offset shown gs) + shown ≤ u.limit
unfolding ends
shown_narrow u offset shown [] h = omega arith
shown_narrow u offset shown (g ∷ gs) h =
    cond_cases Narrow (is_over_wide u g) _ _ (λ _. shown_narrow u offset shown gs h)
    (λ _.
    cond_cases Narrow (ends u shown g) _ _ (λ _. omega arith)
    (λ e.
    cond_cases Narrow (swallows offset g) _ _ (λ _. shown_narrow u (offset - g.width) shown gs h)
    (λ _. omega (arith, shown_narrow u 0 (shown + g.width) gs (ltb-false u.limit (shown + g.width) e)))))
  where
    Narrow : List Glyph → Type 0
    Narrow l = total l + shown ≤ u.limit

-- The glyphs shown are no wider than the limit.
pub truncated_narrow : (u : Rule) (offset : ℕ) (gs : List Glyph) → total (shown_from u offset 0 gs) ≤ u.limit
truncated_narrow u offset gs = omega (arith, shown_narrow u offset 0 gs (omega arith))

-- ---- the line of a text line

-- The glyphs shown equal those of their run.
pub shown_read : (u : Rule) (offset : ℕ) (records : List ℕ) → Read u records (shown_from u offset 0 (numbered u.ambiguous 0 records))
shown_read u offset records =
    let c = contiguous u offset 0 (numbered u.ambiguous 0 records) in
    glyphs_run u (length records) records c.swallowed _ c.rest (omega arith) (rw (take-length records) c.split)

module _ (u : Rule) (column : ℕ) (alignment : Alignment) where
  pub truncated_read : (records : List ℕ) → ReadAll u records (truncate u column alignment (numbered u.ambiguous 0 records))
  unfolding truncate
  truncated_read records =
      cond_cases (ReadAll u records) (eqb u.limit 0) _ _ (λ _. tt) (λ _. (shown_read u (offset_of column alignment) records, tt))

  pub truncated_renumbered : (k : ℕ) (gs : List Glyph) → truncate u column alignment (map (renumber k) gs) ≡ map (map (renumber k)) (truncate u column alignment gs)
  unfolding truncate
  truncated_renumbered k gs = cond_map (map (map (renumber k))) (eqb u.limit 0) _ refl refl (rw (shown_renumbered u k (offset_of column alignment) 0 gs))
