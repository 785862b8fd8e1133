-- Cause 5: the loop over titles, and that its one test per title is equivalent to the table's five tests.
use Prim.Native.Nat.{ℕ, suc, ◌+◌, ◌<◌, ◌≤◌}
use mathlib.Core.Path.{◌≡◌, refl, sym, ap, ◌∙◌}
use mathlib.Core.Bool.{Bool, true, false, not, ◌||◌, or-true}
use mathlib.Core.List.{List, [], ◌∷◌, map}
use native.Mathlib.Omega.{arith}
use borrow.Author.Tests.{lt-ltb, le-ltb}
use lib.Dec.{eqb, ltb, eqb-suc-zero}
use lib.ListN.{length, length-map}
use Rattle.text.specs.Line.{TextLine, lines_from, not_opening}
use Rattle.text.specs.LinesExtra.{parts, cut_lines}
use Rattle.text.proofs.CutLines.{cut_opening}
use Rattle.refuse.specs.declared.Ceilings.{Ceilings}
use Rattle.text.specs.Lists.{some}
use Rattle.refuse.specs.Causes.{too_many_glyphs, position_three, head_zeros_set, titles_wrong}
use Rattle.refuse.specs.ScanExtra.{title_wrong, cut_title_wrong}

-- the table's five tests in the order of the code, those of one title together
five_reordered : (a b c d e : Bool) → (a || b || c || d || e) ≡ (c || (a || (b || (d || e))))
five_reordered true b true d e = refl
five_reordered true b false d e = refl
five_reordered false true true d e = refl
five_reordered false true false d e = refl
five_reordered false false true d e = refl
five_reordered false false false d e = refl

three_or : (a b c x y z : Bool) → ((a || (b || c)) || (x || (y || z))) ≡ ((a || x) || ((b || y) || (c || z)))
three_or true b c x y z = refl
three_or false b c true y z = or-true (b || c)
three_or false true c false y z = refl
three_or false false c false true z = or-true c
three_or false false c false false z = refl

title_tests : (most : Ceilings) (ts : List TextLine)
    → some (cut_title_wrong most) (map parts ts) ≡ (some (too_many_glyphs most) ts || (some position_three ts || some head_zeros_set ts))
unfolding title_wrong
title_tests most [] = refl
title_tests most (t ∷ ts) =
    ap (λ (b : Bool). cut_title_wrong most (parts t) || b) (title_tests most ts)
    ∙ three_or (too_many_glyphs most t) (position_three t) (head_zeros_set t) (some (too_many_glyphs most) ts) (some position_three ts) (some head_zeros_set ts)

pub titles_by_lines : (most : Ceilings) (rs : List ℕ)
    → titles_wrong most rs ≡ (not_opening rs || (ltb most.titles (length (cut_lines rs)) || some (cut_title_wrong most) (cut_lines rs)))
unfolding titles_wrong
titles_by_lines most rs =
    five_reordered (ltb most.titles (length (lines_from 0 rs))) (some (too_many_glyphs most) (lines_from 0 rs)) (not_opening rs) (some position_three (lines_from 0 rs)) (some head_zeros_set (lines_from 0 rs))
    ∙ opening (not_opening rs) refl
  where
    opening : (b : Bool) → not_opening rs ≡ b
        → (b || (ltb most.titles (length (lines_from 0 rs)) || (some (too_many_glyphs most) (lines_from 0 rs) || (some position_three (lines_from 0 rs) || some head_zeros_set (lines_from 0 rs)))))
        ≡ (b || (ltb most.titles (length (cut_lines rs)) || some (cut_title_wrong most) (cut_lines rs)))
    opening true e = refl
    opening false e =
        let n : length (cut_lines rs) ≡ length (lines_from 0 rs) = ap length (cut_opening 0 rs e) ∙ length-map (lines_from 0 rs) parts in
        let t = ap (some (cut_title_wrong most)) (cut_opening 0 rs e) ∙ title_tests most (lines_from 0 rs) in
        rw n (ap (λ (b : Bool). ltb most.titles (length (lines_from 0 rs)) || b) (sym t))

-- Before each turn: the first `seen` titles pass the test, so that those left decide the result.
pub record Scanning (most : Ceilings) (all left : List (ℕ × List ℕ)) (seen : ℕ) : Type 0 where
  pub few : seen ≤ most.titles
  pub counted : seen + length left ≡ length all
  pub same : some (cut_title_wrong most) left ≡ some (cut_title_wrong most) all

module _ (most : Ceilings) (all : List (ℕ × List ℕ)) where
  pub scan_starts : Scanning most all all 0
  scan_starts = record { few = omega arith; counted = omega arith; same = refl }

  module _ (left : List (ℕ × List ℕ)) (seen : ℕ) (s : Scanning most all left seen) where
    pub scan_none : left ≡ [] → false ≡ (ltb most.titles (length all) || some (cut_title_wrong most) all)
    scan_none e =
        let none : length left ≡ 0 = ap length e in
        let c : length all ≤ most.titles = omega (arith, s.few, s.counted, none) in
        simp (le-ltb most.titles (length all) c) (sym (ap (some (cut_title_wrong most)) e) ∙ s.same)

    pub scan_hits : (title : ℕ × List ℕ) (rest : List (ℕ × List ℕ)) → left ≡ title ∷ rest → cut_title_wrong most title ≡ true
        → true ≡ (ltb most.titles (length all) || some (cut_title_wrong most) all)
    scan_hits title rest e t =
        let found : some (cut_title_wrong most) all ≡ true = sym s.same ∙ ap (some (cut_title_wrong most)) e ∙ rw t refl in
        rw found (sym (or-true (ltb most.titles (length all))))

    pub scan_goes : (title : ℕ × List ℕ) (rest : List (ℕ × List ℕ)) → left ≡ title ∷ rest → cut_title_wrong most title ≡ false → seen < most.titles
        → Scanning most all rest (seen + 1)
    scan_goes title rest e f h =
        let one : length left ≡ suc (length rest) = ap length e in
        record {
          few = omega arith;
          counted = omega (arith, s.counted, one);
          same = sym (ap (some (cut_title_wrong most)) e ∙ rw f refl) ∙ s.same;
        }

    pub scan_ends : most.titles ≤ seen → not (eqb (length left) 0) ≡ (ltb most.titles (length all) || some (cut_title_wrong most) all)
    scan_ends h = go left s
      where
        go : (l : List (ℕ × List ℕ)) → Scanning most all l seen → not (eqb (length l) 0) ≡ (ltb most.titles (length all) || some (cut_title_wrong most) all)
        go [] t =
            let c : length all ≤ most.titles = omega (arith, t.few, t.counted) in
            simp (le-ltb most.titles (length all) c) t.same
        go (x ∷ l) t =
            let c : most.titles < length all = omega (arith, t.counted) in
            rw (eqb-suc-zero (length l), lt-ltb most.titles (length all) c) refl

pub ruleset scanning = (scan_starts, scan_none, scan_hits, scan_goes, scan_ends)
