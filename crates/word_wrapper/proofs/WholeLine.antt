-- A whole text line: the word wrapper's lines are those of the rules, and each equals the glyphs of its run.
use Prim.Native.Nat.{ℕ, suc, ◌+◌, ◌<◌}
use mathlib.Core.Path.{◌≡◌, refl, ap}
use mathlib.Core.Bool.{Bool, true, false, cond, not, ◌||◌}
use mathlib.Core.List.{List, [], ◌∷◌, ◌++◌, map, map-append}
use native.Mathlib.Omega.{arith}
use native.Mathlib.Numerals.{add-one}
use lib.Dec.{eqb}
use lib.ListN.{length, get_or, drop, length-drop}
use lib.Seq.{drop-cons}
use Rattle.text.specs.Line.{Glyph, glyph_from, numbered}
use Rattle.wrapping.specs.declared.Run.{Run}
use Rattle.wrapping.specs.declared.Rule.{Rule}
use Rattle.word_wrapper.specs.declared.WordWrapper.{WordWrapper}
use Rattle.std.specs.Prelude.{Some, None, option_to_list}
use Rattle.pending.specs.TestsExtra.{gather_run, last_run}
use Rattle.wrapping.specs.Wrapping.{Pending, empty_pending, empty, gathered, step, last_lines, at_least_one, Wrapped, wrap_from, wrap}
use Rattle.wrapping.specs.RunsExtra.{empty_run, run_of}
use Rattle.word_wrapper.specs.StepsExtra.{new_wrapper, pending_of, finish_run, step_run}
use Rattle.word_wrapper.specs.PullsExtra.{Shows, WrapperInvariant, emitted_of, runs_from, runs}
use Rattle.text.proofs.Bools.{cond_cases}
use Rattle.wrapping.proofs.ListRuns.{run_empty, empty-read}
use Rattle.wrapping.proofs.LastLines.{last-lines-gathered}
use Rattle.word_wrapper.proofs.States.{spaces-empty, gathered_agree, gathered-read}
use Rattle.word_wrapper.proofs.Simulation.{ReadAll, step_matches}

-- The rules' lines from a state on and, if no line was emitted before, at least one. The word wrapper emits that empty line at
-- the text line's end (`emitted` is false); the rules add it to the whole list (`at_least_one`).
abbrev owed : Bool → List (List Glyph) → List (List Glyph)
owed true lines = lines
owed false lines = at_least_one lines

owed-later : (emitted : Bool) (now later : List (List Glyph)) → owed emitted (now ++ later) ≡ now ++ owed (emitted || not (empty now)) later
owed-later true now later = refl
owed-later false [] later = refl
owed-later false (l ∷ now) later = refl

-- ---- the text line's end

module _ (u : Rule) (records : List ℕ) (s : WordWrapper) (t : Pending) (h : Shows u records s t) where
  finish_lines_agree : emitted_of (finish_run u s) ≡ map run_of (owed s.emitted (last_lines u t))
  unfolding finish_run last_run
  finish_lines_agree =
      let l : List Glyph = gathered u t in
      let g : gather_run u.trim (pending_of s) ≡ run_of l = gathered_agree u records s t h in
      rw (g, run_empty l, spaces-empty u records s t h, last-lines-gathered u t) (cases (empty l) (empty t.spaces) s.emitted l)
    where
      cases : (a b c : Bool) (l : List Glyph) →
          option_to_list (cond a (cond b (cond c None (Some empty_run)) (Some empty_run)) (Some (run_of l)))
          ≡ map run_of (owed c (cond a (cond b [] ([] ∷ [])) (l ∷ [])))
      cases true true true l = refl
      cases true true false l = refl
      cases true false true l = refl
      cases true false false l = refl
      cases false b true l = refl
      cases false b false l = refl

  last-read : ReadAll u records (last_lines u t)
  last-read =
      rw (last-lines-gathered u t)
      (cond_cases (ReadAll u records) (empty (gathered u t)) (cond (empty t.spaces) [] ([] ∷ [])) (gathered u t ∷ [])
      (λ _. cond_cases (ReadAll u records) (empty t.spaces) [] ([] ∷ []) (λ _. tt) (λ _. (empty-read u records, tt)))
      (λ _. (gathered-read u records s t h, tt)))

-- ---- all lines

drop_head : (n : ℕ) (l : List ℕ) (x : ℕ) (xs : List ℕ) → x ∷ xs ≡ drop n l → (n < length l) × (x ≡ get_or l n 0) × (xs ≡ drop (n + 1) l)
drop_head n l x xs e =
    let k : n < length l = omega (arith, ap length e, length-drop n l) in
    let c : drop n l ≡ get_or l n 0 ∷ drop (suc n) l = drop-cons l n 0 k in
    (k, cc, rw (add-one n) (cc))

read-append : (u : Rule) (records : List ℕ) (a b : List (List Glyph)) → ReadAll u records a → ReadAll u records b → ReadAll u records (a ++ b)
read-append u records [] b p q = q
read-append u records (l ∷ a) b p q = (p.0, read-append u records a b p.1 q)

runs_agree : (u : Rule) (records xs : List ℕ) (s : WordWrapper) (t : Pending) → Shows u records s t → xs ≡ drop s.at records →
    let ls = (wrap_from u t (numbered u.ambiguous s.at xs)).lines in
    (runs_from u records s xs ≡ map run_of (owed s.emitted ls)) × ReadAll u records ls
runs_agree u records [] s t h e = (finish_lines_agree u records s t h, last-read u records s t h)
runs_agree u records (x ∷ xs) s t h e =
    let d = drop_head s.at records x xs e in
    let m = step_matches u records s t h d.0 in
    let n = (step_run u records s (get_or records s.at 0)).state in
    let r = step u t (glyph_from u.ambiguous s.at (get_or records s.at 0)) in
    let i = runs_agree u records xs n r.pending m.shows (rw m.follows.at d.2) in
    let i' = rw (m.follows.at, m.follows.emitted, add-one) at i in
    rw d.1 (rw (owed-later s.emitted r.lines, map-append run_of, m.lines, i'.0), read-append u records r.lines _ m.read i'.1)

-- ---- from the start of the text line

start-shows : (u : Rule) (records : List ℕ) → Shows u records (new_wrapper u) empty_pending
start-shows u records =
    record {
      left = [];
      is_row = refl;
      is_spaces = refl;
      is_word = refl;
      is_solid = refl;
      split = refl;
      wordless = λ _. refl;
      within = omega arith;
    }

pub start-sound : (u : Rule) (records : List ℕ) → WrapperInvariant u records (new_wrapper u)
start-sound u records = record { pending = empty_pending; shows = start-shows u records }

pub start-runs : (u : Rule) (records : List ℕ) → runs u records (new_wrapper u) ≡ map run_of (wrap u (numbered u.ambiguous 0 records)).lines
unfolding runs wrap
start-runs u records = both (eqb u.limit 0) _ _ (runs_agree u records records (new_wrapper u) empty_pending (start-shows u records) refl).0
  where
    both : (b : Bool) (rs : List Run) (w : Wrapped) → rs ≡ map run_of w.lines → cond (not b) rs [] ≡ map run_of (cond b (record { lines = []; dropped = [] }) w).lines
    both true rs w e = refl
    both false rs w e = e

one-read : (u : Rule) (records : List ℕ) (ls : List (List Glyph)) → ReadAll u records ls → ReadAll u records (at_least_one ls)
one-read u records [] r = (empty-read u records, tt)
one-read u records (l ∷ ls) r = r

pub wrap-read : (u : Rule) (records : List ℕ) → ReadAll u records (wrap u (numbered u.ambiguous 0 records)).lines
unfolding wrap
wrap-read u records =
    cond_cases (λ (w : Wrapped). ReadAll u records w.lines) (eqb u.limit 0) _ _
    (λ _. tt)
    (λ _. one-read u records (wrap_from u empty_pending (numbered u.ambiguous 0 records)).lines (runs_agree u records records (new_wrapper u) empty_pending (start-shows u records) refl).1)
