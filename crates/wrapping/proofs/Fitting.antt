-- Laws of the loop that drops glyphs from a run's front while they fit.
use Prim.Native.Nat.{ℕ, suc, ◌+◌, ◌-◌, ◌≤◌, ◌<◌}
use mathlib.Core.Path.{◌≡◌, refl, sym, ap, ◌∙◌}
use mathlib.Core.List.{List, [], ◌∷◌}
use native.Mathlib.Omega.{arith}
use native.Mathlib.Numerals.{add-one}
use borrow.Author.Tests.{le-leb, lt-leb, lt-ltb, le-ltb}
use lib.ListN.{length, get_or, take, drop_of_length-le}
use lib.Seq.{slice, slice-cons, length-take-le}
use Rattle.text.specs.Record.{width_of}
use Rattle.text.specs.Line.{Glyph, glyph_from, numbered, total}
use Rattle.wrapping.specs.declared.Run.{Run}
use Rattle.wrapping.specs.declared.Rule.{Rule}
use Rattle.wrapping.specs.Wrapping.{after_fitting, is_over_wide, not_over_wide}
use Rattle.wrapping.specs.RunsExtra.{empty_run, end_from, run_of, glyphs_in, drop_run}
use Rattle.wrapping.proofs.ListRuns.{run_width}

-- a run's glyphs from record i on
unfoldable pub glyphs_from : Rule → List ℕ → Run → ℕ → List Glyph
glyphs_from u records a i = not_over_wide u (numbered u.ambiguous i (slice i a.end records))

-- Loop invariant: before each turn, the glyphs before record i are dropped, with width room₀ - room, and dropping from the others
-- while they fit in `room` leaves what dropping from all while they fit in room₀ leaves.
pub record Dropping (u : Rule) (records : List ℕ) (a : Run) (room₀ room i : ℕ) : Type 0 where
  pub within : a.end ≤ length records
  pub same : after_fitting room₀ (glyphs_in u records a) ≡ after_fitting room (glyphs_from u records a i)
  pub less : room ≤ room₀
  pub sum : a.width ≡ (room₀ - room) + total (glyphs_from u records a i)
  pub last : end_from a.end (glyphs_from u records a i) ≡ a.end

run_end : (l : List Glyph) (a : Run) → a ≡ run_of l → end_from a.end l ≡ a.end
run_end [] a h = refl
run_end (g ∷ l) a h = sym (ap (λ (r : Run). r.end) h)

end_again : (e d : ℕ) (l : List Glyph) → end_from d l ≡ e → end_from e l ≡ e
end_again e d [] h = refl
end_again e d (g ∷ l) h = h

module _ (u : Rule) (records : List ℕ) (a : Run) where
  pub dropping_starts : (room : ℕ) → a.end ≤ length records → a ≡ run_of (glyphs_in u records a) → Dropping u records a room room a.first
  unfolding glyphs_in glyphs_from
  dropping_starts room k e =
      let l = glyphs_in u records a in
      let v : a.width ≡ total l = ap (λ (r : Run). r.width) e ∙ run_width l in
      record { within = k; same = refl; less = omega arith; sum = omega (arith, v); last = run_end l a e }

  from_end : (i : ℕ) → a.end ≤ length records → a.end ≤ i → glyphs_from u records a i ≡ []
  unfolding glyphs_from
  from_end i k h =
      let l : length (take a.end records) ≤ i = simp (length-take-le a.end records k) h in
      rw (drop_of_length-le (take a.end records) l)

  module _ (room₀ room i : ℕ) (d : Dropping u records a room₀ room i) where
    pub dropping_ends : (r : Run) → a.end ≤ i → r ≡ empty_run → r ≡ drop_run u records a room₀
    unfolding drop_run
    dropping_ends r h e =
        let q : after_fitting room₀ (glyphs_in u records a) ≡ [] = d.same ∙ ap (after_fitting room) (from_end i d.within h) in
        rw q e

    module _ (w : ℕ) (h : i < a.end) (e : w ≡ width_of u.ambiguous (get_or records i 0)) where
      abbrev glyph : Glyph
      glyph = glyph_from u.ambiguous i (get_or records i 0)

      next_glyph : glyphs_from u records a i ≡ not_over_wide u (glyph ∷ numbered u.ambiguous (suc i) (slice (suc i) a.end records))
      unfolding glyphs_from
      next_glyph = rw (slice-cons i a.end records 0 h d.within)

      pub dropping_skips : u.limit < w → Dropping u records a room₀ room (i + 1)
      unfolding is_over_wide glyphs_from
      dropping_skips o =
          let s : glyphs_from u records a i ≡ glyphs_from u records a (i + 1) = next_glyph ∙ rw (← e, lt-ltb u.limit w o, add-one i) in
          record { within = d.within; same = rw s at d.same; less = d.less; sum = rw s at d.sum; last = rw s at d.last }

      module _ (o : w ≤ u.limit) where
        next_kept : glyphs_from u records a i ≡ glyph ∷ glyphs_from u records a (i + 1)
        unfolding is_over_wide glyphs_from
        next_kept = next_glyph ∙ rw (← e, le-ltb u.limit w o, add-one i)

        sum_later : a.width ≡ (room₀ - room) + (w + total (glyphs_from u records a (i + 1)))
        sum_later = d.sum ∙ ap (λ (n : ℕ). (room₀ - room) + n) (ap total next_kept ∙ rw e)

        pub dropping_enough : room₀ - room ≤ a.width
        dropping_enough = omega (arith, sum_later)

        pub dropping_goes : w ≤ room → Dropping u records a room₀ (room - w) (i + 1)
        dropping_goes f =
            record {
              within = d.within;
              same = d.same ∙ ap (after_fitting room) next_kept ∙ rw (← e, le-leb w room f);
              less = omega (arith, d.less);
              sum = omega (arith, sum_later, d.less);
              last = end_again a.end (i + 1) (glyphs_from u records a (i + 1)) (rw next_kept at d.last);
            }

        pub dropping_stops : room < w → record { first = i; end = a.end; width = a.width - (room₀ - room) } ≡ drop_run u records a room₀
        unfolding drop_run
        dropping_stops f =
            let q : after_fitting room₀ (glyphs_in u records a) ≡ glyph ∷ glyphs_from u records a (i + 1)
            = d.same ∙ ap (after_fitting room) next_kept ∙ rw (← e, lt-leb w room f) in
            let l : end_from (i + 1) (glyphs_from u records a (i + 1)) ≡ a.end = rw next_kept at d.last in
            let v : a.width - (room₀ - room) ≡ width_of u.ambiguous (get_or records i 0) + total (glyphs_from u records a (i + 1)) = omega (arith, sum_later) in
            rw q (cc)

pub ruleset dropping = (dropping_starts, dropping_ends, dropping_skips, dropping_enough, dropping_goes, dropping_stops)
