-- Laws of the loop of `next_line`: it steps until a line is emitted or the text line ends.
use Prim.Native.Nat.{ℕ, ◌+◌, ◌-◌, ◌*◌, ◌^◌, ◌≤◌, ◌<◌}
use mathlib.Core.Path.{◌≡◌, refl, ap, ◌∙◌}
use mathlib.Core.Bool.{Bool, true, false}
use mathlib.Core.List.{List, [], ◌∷◌, ◌++◌, map}
use native.Mathlib.Omega.{arith}
use native.Mathlib.Numerals.{add-one}
use lib.Dec.{eqb}
use lib.ListN.{length, get_or, drop, drop_of_length-le}
use lib.Seq.{drop-cons}
use Rattle.std.specs.Prelude.{Option, Some, None, option_to_list}
use Rattle.text.specs.Line.{Glyph, glyph_from}
use Rattle.wrapping.specs.declared.Run.{Run}
use Rattle.wrapping.specs.declared.Rule.{Rule}
use Rattle.wrapping.proofs.Fittings.{fits-most}
use Rattle.word_wrapper.specs.declared.WordWrapper.{WordWrapper}
use Rattle.wrapping.specs.Wrapping.{Step, emptied, step}
use Rattle.wrapping.specs.RunsExtra.{fitting_of, empty_run, run_of, glyphs_in, Spans}
use Rattle.pending.specs.TestsExtra.{gather_run, joins, last_run}
use Rattle.word_wrapper.specs.StepsExtra.{pending_of, join_run, join_if_due_run, emit_row_run, step_run, close_run, finish_run}
use Rattle.word_wrapper.specs.PullsExtra.{WrapperInvariant, runs_from, runs, pulled, NextRunInvariant, PulledRun}
use Rattle.text.proofs.Bools.{cond_cases}
use Rattle.wrapping.proofs.ListRuns.{empty-read}
use Rattle.word_wrapper.proofs.States.{shows-sum, shows-spaces, joined-sound, emptied-shows, gathered_agree, gathered-read}
use Rattle.word_wrapper.proofs.Simulation.{ReadAll, step_matches}

-- ---- a state that meets the invariant

module _ (u : Rule) (records : List ℕ) (s : WordWrapper) (h : WrapperInvariant u records s) where
  pub sound-sum : s.row.width + s.spaces.width + s.word.width ≤ 7 * s.at
  sound-sum = shows-sum u records s h.pending h.shows

  pub sound-within : s.at ≤ length records
  sound-within = h.shows.within

  pub sound-spaces : (s.spaces.end ≤ length records) × (s.spaces ≡ run_of (glyphs_in u records s.spaces))
  sound-spaces = let l = shows-spaces u records s h.pending h.shows in (l.within, l.glyphs)

  pub sound_closed : WrapperInvariant u records (close_run s)
  unfolding close_run
  sound_closed =
      let k = h.shows in
      record {
        pending = h.pending;
        shows =
            record {
              left = k.left;
              is_row = k.is_row;
              is_spaces = k.is_spaces;
              is_word = k.is_word;
              is_solid = k.is_solid;
              split = k.split;
              wordless = k.wordless;
              within = k.within;
            };
      }

  module _ (r : WordWrapper) where
    pub sound-joined : (w : ℕ) (space : Bool) → r ≡ join_if_due_run u s w space → WrapperInvariant u records r
    sound-joined w space e = rw e (joined-sound u records s h.pending h.shows w space)

    sound-emptied : r ≡ emit_row_run u records s → WrapperInvariant u records r
    sound-emptied e = rw e (record { pending = emptied u h.pending; shows = emptied-shows u records s h.pending h.shows })

pub joined_at : (u : Rule) (s r : WordWrapper) (w : ℕ) (space : Bool) → r ≡ join_if_due_run u s w space → r.at ≡ s.at
unfolding join_if_due_run join_run
joined_at u s r w space e =
    ap (λ (x : WordWrapper). x.at) e ∙ cond_cases (λ (x : WordWrapper). x.at ≡ s.at) (joins u (pending_of s) w space) (join_run u.trim s) s (λ _. refl) (λ _. refl)

-- before a step, adding a width that fits can't overflow, and the width is below 8
module _ (u : Rule) (g : Option ℕ) (x w : ℕ) (d : g ≡ fitting_of u x) (k : g ≡ Some w) where
  pub join-fits : (records : List ℕ) (s : WordWrapper) → WrapperInvariant u records s → length records < 2 ^ 28
      → s.row.width + s.spaces.width + s.word.width + w < 2 ^ 32
  join-fits records s h few = omega (arith, fits-most u x g d w k, sound-sum u records s h, sound-within u records s h)

  pub fits_eight : w < 8
  fits_eight = omega (arith, fits-most u x g d w k)

-- after an emit, adding the glyph's width and advancing can't overflow
module _ (u : Rule) (records : List ℕ) (s r : WordWrapper) (h : WrapperInvariant u records s) (k : length records < 2 ^ 28) (e : r ≡ emit_row_run u records s) where
  pub emptied-fits : (w : ℕ) → w < 8 → r.row.width + r.spaces.width + r.word.width + w < 2 ^ 32
  emptied-fits w o =
      let n = sound-emptied u records s h r e in
      omega (arith, sound-sum u records r n, sound-within u records r n)

  pub emptied_next : r.at + 1 < 2 ^ 64
  emptied_next = omega (arith, sound-within u records r (sound-emptied u records s h r e))

-- ---- the loop

-- Loop invariant: before each turn, the state w meets its invariant, is live, and has the remaining lines of the initial state s.
pub record Pulling (u : Rule) (records : List ℕ) (s w : WordWrapper) : Type 0 where
  pub sound : WrapperInvariant u records w
  pub live : w.live ≡ true
  pub lines : runs u records s ≡ runs u records w

live-runs : (u : Rule) (records : List ℕ) (s : WordWrapper) → s.live ≡ true → runs u records s ≡ runs_from u records s (drop s.at records)
unfolding runs
live-runs u records s l = rw l

pub closed_runs : (u : Rule) (records : List ℕ) (s : WordWrapper) → runs u records (close_run s) ≡ []
unfolding runs close_run
closed_runs u records s = refl

read-spans : (u : Rule) (records : List ℕ) (line : Run) (ls : List (List Glyph)) → line ∷ [] ≡ map run_of ls → ReadAll u records ls → Spans u records line
read-spans u records line [] e r = let z : ◌≡◌ {A = ℕ} 0 1 = cc in absurd (omega arith)
read-spans u records line (l ∷ ls) e r = let d : line ≡ run_of l = cc in rw d r.0.spans

module _ (u : Rule) (records : List ℕ) (s : WordWrapper) where
  pub pulling_starts : WrapperInvariant u records s → s.live ≡ true → Pulling u records s s
  pulling_starts h l = record { sound = h; live = l; lines = refl }

  pub pulling_shut : WrapperInvariant u records s → s.live ≡ false → PulledRun u records s None s
  unfolding runs pulled
  pulling_shut h l = record { lines = rw l; sound = (h, rw l) }

  module _ (w : WordWrapper) (p : Pulling u records s w) where
    module _ (k : w.at < length records) (line : Option Run) (n : WordWrapper)
        (f : line ≡ (step_run u records w (get_or records w.at 0)).line) (e : n ≡ (step_run u records w (get_or records w.at 0)).state) where
      abbrev ruled : Step
      ruled = step u p.sound.pending (glyph_from u.ambiguous w.at (get_or records w.at 0))

      -- after one step: the invariant, `live`, the next index, and the lines remaining before it
      stepping : (WrapperInvariant u records n) × (n.live ≡ true) × (n.at ≡ w.at + 1) × (runs u records s ≡ option_to_list line ++ runs u records n)
      stepping =
          let h = p.sound in
          let m = step_matches u records w h.pending h.shows k in
          let o = step_run u records w (get_or records w.at 0) in
          let l : o.state.live ≡ true = m.follows.live ∙ p.live in
          rw (e, f) (
            record { pending = ruled.pending; shows = m.shows },
            l,
            m.follows.at,
            p.lines ∙ rw (live-runs u records w p.live, drop-cons records w.at 0 k, live-runs u records o.state l, m.follows.at, add-one w.at),
          )

      pub pulling_goes : line ≡ None → Pulling u records s n
      pulling_goes g =
          let r = rw g at stepping in
          record { sound = r.0; live = r.1; lines = r.3 }

      pub pulling_less : length records - n.at < length records - w.at
      pulling_less = omega (arith, stepping.2)

      pub pulling_emits : (run : Run) → line ≡ Some run → PulledRun u records s (Some run) n
      unfolding pulled
      pulling_emits run g =
          let r = rw g at stepping in
          let m = rw (← f, g) at (step_matches u records w p.sound.pending p.sound.shows k) in
          record { lines = r.3; sound = (r.0, read-spans u records run ruled.lines m.lines m.read) }

    -- the text line's end gives one line or none, and leaves none
    pub pulling_ends : (line : Option Run) (n : WordWrapper) → length records ≤ w.at → line ≡ (finish_run u w).line → n ≡ (finish_run u w).state → PulledRun u records s line n
    unfolding finish_run last_run pulled
    pulling_ends line n k f e =
        let q =
        cond_cases Ends (eqb (gather_run u.trim (pending_of w)).end 0) _ _
        (λ _. cond_cases Ends (eqb w.spaces.end 0) _ _ (λ _. cond_cases Ends w.emitted _ _ (λ _. (refl, (sound_closed u records w p.sound, closed_runs u records w))) (λ _. none)) (λ _. none))
        (λ _. last (gather_run u.trim (pending_of w)) (rw (gathered_agree u records w p.sound.pending p.sound.shows) (gathered-read u records w p.sound.pending p.sound.shows).spans)) in
        rw (f, e)
        (record {
          lines = p.lines ∙ live-runs u records w p.live ∙ ap (runs_from u records w) (drop_of_length-le records k) ∙ q.0;
          sound = q.1;
        })
      where
        Ends : Option Run → Type 0
        Ends l = (option_to_list l ≡ pulled u records l (close_run w)) × NextRunInvariant u records l (close_run w)

        last : (line : Run) → Spans u records line → Ends (Some line)
        last line l = (rw (closed_runs u records w), (sound_closed u records w p.sound, l))

        none : Ends (Some empty_run)
        none = last empty_run (empty-read u records).spans

pub ruleset pulling = (pulling_starts, pulling_shut, pulling_goes, pulling_less, pulling_emits, pulling_ends)
