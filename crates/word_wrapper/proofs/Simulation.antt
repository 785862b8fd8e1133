-- A step of the word wrapper on runs does what the rules' step does on lists.
use Prim.Native.Nat.{ℕ, ◌+◌, ◌<◌}
use mathlib.Core.Path.{◌≡◌, refl, sym, ap, ◌∙◌}
use mathlib.Core.Bool.{Bool, true, false, cond, not, ◌&&◌, ◌||◌, true≢false, or-true, or-false, and-eq-true_iff}
use mathlib.Core.List.{List, [], ◌∷◌, map}
use lib.Dec.{eqb}
use lib.ListN.{length, get_or}
use Rattle.text.specs.Line.{Glyph, glyph_from}
use Rattle.text.proofs.Bools.{neither, cond_cases}
use Rattle.wrapping.specs.declared.Run.{Run}
use Rattle.wrapping.specs.declared.Rule.{Rule}
use Rattle.word_wrapper.specs.declared.WordWrapper.{WordWrapper}
use Rattle.wrapping.specs.Wrapping.{Pending, empty, Step, silent, is_over_wide, must_join, joined, full, emptied, drops, appended, step}
use Rattle.wrapping.specs.RunsExtra.{run_of}
use Rattle.word_wrapper.specs.StepsExtra.{Stepped, emits_line, emits_none, join_run, join_if_due_run, emit_row_run, skip_glyph_run, append_glyph_run, append_or_drop_run, emit_or_append_run, step_run}
use Rattle.word_wrapper.specs.PullsExtra.{Shows, emitted_of}
use Rattle.wrapping.proofs.ListRuns.{Read}
use Rattle.wrapping.proofs.Ways.{filled, emits, joining, filled_ways, step-ways}
use Rattle.word_wrapper.proofs.States.{row_read, spaces-empty, join_tests_agree, full_tests_agree, join-shows, emptied-shows, wide-shows, dropped-shows, appended-shows}

empty_nil : (l : List Glyph) → empty l ≡ true → l ≡ []
empty_nil [] e = refl
empty_nil (x ∷ l) e = absurd (true≢false (sym e))

-- n is s advanced by one record; `emits` is whether a line was emitted
pub record Follows (s n : WordWrapper) (emits : Bool) : Type 0 where
  pub at : n.at ≡ s.at + 1
  pub live : n.live ≡ s.live
  pub emitted : n.emitted ≡ (s.emitted || emits)

passed-follows : (s : WordWrapper) → Follows s (skip_glyph_run s) false
unfolding skip_glyph_run
passed-follows s = record { at = refl; live = refl; emitted = sym (or-false s.emitted) }

appended-follows : (s : WordWrapper) (w : ℕ) (space : Bool) → Follows s (append_glyph_run s w space) false
unfolding append_glyph_run
appended-follows s w true = record { at = refl; live = refl; emitted = sym (or-false s.emitted) }
appended-follows s w false = record { at = refl; live = refl; emitted = sym (or-false s.emitted) }

rest-follows : (s : WordWrapper) (w : ℕ) (space : Bool) → Follows s (append_or_drop_run s w space) false
unfolding append_or_drop_run
rest-follows s w space =
    cond_cases (λ (n : WordWrapper). Follows s n false) (space && eqb s.spaces.end 0) (skip_glyph_run s) (append_glyph_run s w space)
    (λ _. passed-follows s) (λ _. appended-follows s w space)

abbrev pub ReadAll : Rule → List ℕ → List (List Glyph) → Type 0
ReadAll u records [] = Unit {0}
ReadAll u records (l ∷ ls) = Read u records l × ReadAll u records ls

-- the step o from s, on runs, does what the rules' step r does on lists
pub record Matches (u : Rule) (records : List ℕ) (s : WordWrapper) (o : Stepped) (r : Step) : Type 0 where
  pub lines : emitted_of o ≡ map run_of r.lines
  pub read : ReadAll u records r.lines
  pub shows : Shows u records o.state r.pending
  pub follows : Follows s o.state (not (empty r.lines))

-- The state s has the pending lists t; its next glyph g is no wider than the limit and, if it is whitespace, no word is pending.
record NextGlyph (u : Rule) (records : List ℕ) (s : WordWrapper) (t : Pending) (g : Glyph) : Type 0 where
  pub shows : Shows u records s t
  pub in_text : s.at < length records
  pub is_next : g ≡ glyph_from u.ambiguous s.at (get_or records s.at 0)
  pub fits : is_over_wide u g ≡ false
  pub wordless : g.whitespace ≡ true → t.word ≡ []

module _ (u : Rule) (records : List ℕ) (s : WordWrapper) (t : Pending) (g : Glyph) (n : NextGlyph u records s t g) where
  rest-shows : t.row ≡ [] → Shows u records (append_or_drop_run s g.width g.whitespace) (cond (drops t g) t (appended t g))
  unfolding append_or_drop_run drops
  rest-shows r =
      rw (spaces-empty u records s t n.shows)
      (both (g.whitespace && empty t.spaces) (λ b. ((and-eq-true_iff g.whitespace _).0 b).0) (λ b. empty_nil t.spaces ((and-eq-true_iff g.whitespace _).0 b).1))
    where
      both : (b : Bool) → (b ≡ true → g.whitespace ≡ true) → (b ≡ true → t.spaces ≡ [])
          → Shows u records (cond b (skip_glyph_run s) (append_glyph_run s g.width g.whitespace)) (cond b t (appended t g))
      both true p q = dropped-shows u records s t n.shows g n.in_text n.is_next n.fits r (q refl) (n.wordless (p refl))
      both false p q = appended-shows u records s t n.shows g n.in_text n.is_next n.fits n.wordless

module _ (u : Rule) (records : List ℕ) (s : WordWrapper) (t : Pending) (g : Glyph) (n : NextGlyph u records s t g) where
  -- row is emitted, and the glyph dropped or appended
  emit_matches : (b : Bool) → drops (emptied u t) g ≡ b → (more : List Glyph) → Matches u records s
      (emits_line s.row (append_or_drop_run (emit_row_run u records s) g.width g.whitespace)) (emits u t more (cond b (emptied u t) (appended (emptied u t) g)) b)
  unfolding emit_row_run emptied
  emit_matches b d more =
      let r = rest-follows (emit_row_run u records s) g.width g.whitespace in
      let left : NextGlyph u records (emit_row_run u records s) (emptied u t) g =
      record { shows = emptied-shows u records s t n.shows; in_text = n.in_text; is_next = n.is_next; fits = n.fits; wordless = n.wordless } in
      record {
        lines = ap {B = List Run} (λ (x : Run). x ∷ []) n.shows.is_row;
        read = (row_read u records s t n.shows, tt);
        shows = rw d at (rest-shows u records (emit_row_run u records s) (emptied u t) g left refl);
        follows = record { at = r.at; live = r.live; emitted = r.emitted ∙ sym (or-true s.emitted) };
      }

  filled_matches : Matches u records s (emit_or_append_run u records s g.width g.whitespace) (filled u t g)
  unfolding emit_or_append_run
  filled_matches =
      rw (full_tests_agree u records s t n.shows g)
      (filled_ways u t g
      (λ (r : Step).
      Matches u records s
      (cond (full u t g) (emits_line s.row (append_or_drop_run (emit_row_run u records s) g.width g.whitespace)) (emits_none (append_glyph_run s g.width g.whitespace)))
      r)
      (λ a d. rw a (emit_matches true d (g ∷ [])))
      (λ a d. rw a (emit_matches false d []))
      (λ a. rw a (record { lines = refl; read = tt; shows = appended-shows u records s t n.shows g n.in_text n.is_next n.fits n.wordless; follows = appended-follows s g.width g.whitespace })))

module _ (u : Rule) (records : List ℕ) (s : WordWrapper) (t : Pending) (h : Shows u records s t) (k : s.at < length records) where
  module _ (g : Glyph) (e : g ≡ glyph_from u.ambiguous s.at (get_or records s.at 0)) where
    joining_matches : is_over_wide u g ≡ false → Matches u records s (emit_or_append_run u records (join_run u.trim s) g.width g.whitespace) (joining u t g)
    unfolding join_run joined
    joining_matches o =
        let m = filled_matches u records (join_run u.trim s) (joined u t) g
        (record { shows = join-shows u records s t h; in_text = k; is_next = e; fits = o; wordless = λ _. refl }) in
        record {
          lines = m.lines;
          read = m.read;
          shows = m.shows;
          follows = record { at = m.follows.at; live = m.follows.live; emitted = m.follows.emitted };
        }

    skip_matches : is_over_wide u g ≡ true → Matches u records s (emits_none (skip_glyph_run s)) (silent t)
    skip_matches o = record { lines = refl; read = tt; shows = wide-shows u records s t h g k e o; follows = passed-follows s }

    kept_matches : is_over_wide u g ≡ false → must_join u t g ≡ false → Matches u records s (emit_or_append_run u records s g.width g.whitespace) (filled u t g)
    unfolding must_join
    kept_matches o j =
        filled_matches u records s t g
        (record { shows = h; in_text = k; is_next = e; fits = o; wordless = λ w. h.wordless (neither t.solid _ (rw w at j)).0 })

  pub step_matches : Matches u records s (step_run u records s (get_or records s.at 0)) (step u t (glyph_from u.ambiguous s.at (get_or records s.at 0)))
  unfolding step_run join_if_due_run is_over_wide
  step_matches =
      let g : Glyph = glyph_from u.ambiguous s.at (get_or records s.at 0) in
      rw (join_tests_agree u records s t h g)
      (step-ways u t g
      (λ (r : Step).
      Matches u records s
      (cond (is_over_wide u g) (emits_none (skip_glyph_run s)) (emit_or_append_run u records (cond (must_join u t g) (join_run u.trim s) s) g.width g.whitespace))
      r)
      (λ o. rw o (skip_matches g refl o))
      (λ o j. rw (o, j) (joining_matches g refl o))
      (λ o j. rw (o, j) (kept_matches g refl o j)))
