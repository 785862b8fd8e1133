-- A run of one text line, converted to record numbers of the whole text, has the same glyphs.
use Prim.Native.Nat.{ℕ, zero, suc, ◌+◌, ◌-◌, ◌≤◌}
use mathlib.Core.Path.{◌≡◌, refl, sym, ap, ◌∙◌}
use mathlib.Core.Bool.{Bool, true, false, cond}
use mathlib.Core.List.{List, [], ◌∷◌, map}
use native.Mathlib.Omega.{arith}
use borrow.Author.Tests.{eq-eqb, ne_eqb, eqb-true, eqb-false}
use lib.Dec.{eqb, ltb}
use lib.ListN.{length, take, drop, length-take, length-drop}
use lib.Seq.{slice, take-take, drop-drop, drop-nil, take-nil}
use Rattle.text.specs.declared.Alignment.{Alignment}
use Rattle.text.specs.Line.{Glyph, numbered}
use Rattle.wrapping.specs.declared.Run.{Run}
use Rattle.wrapping.specs.declared.Rule.{Rule}
use Rattle.wrapping.specs.Wrapping.{is_over_wide, not_over_wide}
use Rattle.wrapping.specs.RunsExtra.{end_from, run_of, glyphs_in, Spans}
use Rattle.wrapping.proofs.Renumbering.{renumber, total-map, numbered-from}
use Rattle.line_composer.specs.declared.WrappedLine.{WrappedLine}
use Rattle.line_composer.specs.Lines.{aligned, end_of, wrapped_line_of, line_at}
use Rattle.line_composer.specs.ComposingExtra.{line_of_run, ReadsBack}

-- one law for each path through `wrapped_line`
module _ (from : ℕ) (alignment : Alignment) (run : Run) where
  pub composed-none : run.end ≡ 0 → record { first = 0; end = 0; width = run.width; alignment = alignment } ≡ line_of_run from alignment run
  unfolding line_of_run
  composed-none h = simp (eq-eqb run.end 0 h)

  pub composed-some : (run.end ≡ 0 → ⊥)
      → record { first = from + run.first; end = from + run.end; width = run.width; alignment = alignment } ≡ line_of_run from alignment run
  unfolding line_of_run
  composed-some h = simp (ne_eqb run.end 0 h)

-- a slice of a slice of the text is a slice of the text
drop-take : {A : Type 0} (n m : ℕ) (l : List A) → drop n (take (n + m) l) ≡ take m (drop n l)
drop-take zero m l = let e : 0 + m ≡ m = omega arith in rw e
drop-take (suc n) m [] = ap (drop (suc n)) (take-nil (suc n + m)) ∙ sym (take-nil m)
drop-take (suc n) m (x ∷ l) = let e : suc n + m ≡ suc (n + m) = omega arith in rw e (drop-take n m l)

slice-part : (from to first end : ℕ) (text : List ℕ) → end ≤ to - from
    → slice (from + first) (from + end) text ≡ slice first end (take (to - from) (drop from text))
slice-part from to first end text h =
    sym (drop-drop first from (take (from + end) text))
    ∙ ap (drop first) (drop-take from end text ∙ sym (take-take end (to - from) (drop from text) h))

fits_shift : (u : Rule) (k : ℕ) (gs : List Glyph) → not_over_wide u (map (renumber k) gs) ≡ map (renumber k) (not_over_wide u gs)
unfolding is_over_wide
fits_shift u k [] = refl
fits_shift u k (g ∷ gs) = go (ltb u.limit g.width) (fits_shift u k gs)
  where
    go : (b : Bool) → not_over_wide u (map (renumber k) gs) ≡ map (renumber k) (not_over_wide u gs)
        → cond b (not_over_wide u (map (renumber k) gs)) (renumber k g ∷ not_over_wide u (map (renumber k) gs)) ≡ map (renumber k) (cond b (not_over_wide u gs) (g ∷ not_over_wide u gs))
    go true ih = ih
    go false ih = ap {B = List Glyph} (λ (l : List Glyph). renumber k g ∷ l) ih

end_shift : (k : ℕ) (g : Glyph) (gs : List Glyph) → end_of (map (renumber k) (g ∷ gs)) ≡ k + end_from (g.number + 1) gs
end_shift k g [] = omega arith
end_shift k g (h ∷ gs) = end_shift k h gs

end_more : (e : ℕ) (gs : List Glyph) → end_from (e + 1) gs ≡ 0 → ⊥
end_more e [] h = omega arith
end_more e (g ∷ gs) h = end_more g.number gs h

module _ (u : Rule) (text : List ℕ) (from to : ℕ) (alignment : Alignment) (run : Run) (s : Spans u (take (to - from) (drop from text)) run) where
  abbrev records : List ℕ
  records = take (to - from) (drop from text)

  -- the converted line has the run's glyphs
  pub converted_glyphs : line_at u text (line_of_run from alignment run) ≡ aligned alignment (map (renumber from) (glyphs_in u records run))
  unfolding line_at glyphs_in line_of_run
  converted_glyphs = go (eqb run.end 0) (eqb-true run.end 0)
    where
      shifted : not_over_wide u (numbered u.ambiguous (from + run.first) (slice (from + run.first) (from + run.end) text)) ≡ map (renumber from) (glyphs_in u records run)
      shifted =
          ap (λ (l : List ℕ). not_over_wide u (numbered u.ambiguous (from + run.first) l)) (slice-part from to run.first run.end text (omega (arith, s.within, length-take (to - from) (drop from text))))
          ∙ ap (not_over_wide u) (numbered-from u.ambiguous from run.first (slice run.first run.end records))
          ∙ fits_shift u from (numbered u.ambiguous run.first (slice run.first run.end records))

      nothing : run.end ≡ 0 → glyphs_in u records run ≡ []
      nothing e = rw e (ap (λ (l : List ℕ). not_over_wide u (numbered u.ambiguous run.first l)) (drop-nil run.first))

      go : (b : Bool) → (b ≡ true → run.end ≡ 0)
          → line_at u text
          (cond b
          (record { first = 0; end = 0; width = run.width; alignment = alignment })
          (record { first = from + run.first; end = from + run.end; width = run.width; alignment = alignment }))
          ≡ aligned alignment (map (renumber from) (glyphs_in u records run))
      go true e = ap (λ (l : List Glyph). aligned alignment (map (renumber from) l)) (sym (nothing (e refl)))
      go false e = ap (aligned alignment) shifted

  -- the converted line has the fields of the run's glyphs
  pub converted_fields : (gs : List Glyph) → run ≡ run_of gs → line_of_run from alignment run ≡ wrapped_line_of (aligned alignment (map (renumber from) gs))
  unfolding wrapped_line_of line_of_run
  converted_fields [] e = rw e
  converted_fields (g ∷ gs) e =
      let l : end_of (map (renumber from) (g ∷ gs)) ≡ from + end_from (g.number + 1) gs = end_shift from g gs in
      rw e (sym (composed-some from alignment (run_of (g ∷ gs)) (end_more g.number gs)) ∙ rw (l, total-map (renumber from) (λ g. refl) (λ g. refl) gs))

  Within : WrappedLine → Type 0
  Within c = (c.first ≤ c.end) × (c.end ≤ length text)

  converted_within : Within (line_of_run from alignment run)
  unfolding line_of_run Within
  converted_within = go (eqb run.end 0) (eqb-false run.end 0)
    where
      go : (b : Bool) → (b ≡ false → run.end ≡ 0 → ⊥)
          → Within
          (cond b
          (record { first = 0; end = 0; width = run.width; alignment = alignment })
          (record { first = from + run.first; end = from + run.end; width = run.width; alignment = alignment }))
      go true e = (omega arith, omega arith)
      go false e =
          (omega (arith, s.ordered), omega (arith, e refl, s.within, length-take (to - from) (drop from text), length-drop from text))

  pub converted_reads_back : ReadsBack u text (line_of_run from alignment run)
  unfolding Within
  converted_reads_back = record { is = converted_fields (glyphs_in u records run) s.glyphs ∙ ap wrapped_line_of (sym converted_glyphs); within = converted_within.1; ordered = converted_within.0 }
