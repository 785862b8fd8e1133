-- Laws of a whole step; `search` finds the premises at each return.
use Prim.Native.Nat.{ℕ}
use mathlib.Core.Path.{◌≡◌}
use mathlib.Core.List.{List}
use mathlib.Core.Bool.{Bool}
use borrow.Author.Tests.{lt-ltb, le-ltb}
use Rattle.std.specs.Prelude.{Option, Some, None}
use Rattle.text.specs.Record.{width_of, whitespace_of}
use Rattle.wrapping.specs.declared.Run.{Run}
use Rattle.wrapping.specs.declared.Rule.{Rule}
use Rattle.word_wrapper.specs.declared.WordWrapper.{WordWrapper}
use Rattle.wrapping.specs.RunsExtra.{fitting_of}
use Rattle.wrapping.proofs.Fittings.{fits-read_as, fits-limit, over-limit}
use Rattle.word_wrapper.specs.StepsExtra.{emits_none, join_if_due_run, skip_glyph_run, emit_or_append_run, step_run}

module _ (u : Rule) (records : List ℕ) (s : WordWrapper) (g : Option ℕ) (x : ℕ) (d : g ≡ fitting_of u x) where
  -- an over-wide glyph is skipped
  module _ (k : g ≡ None) where
    step-skips : emits_none (skip_glyph_run s) ≡ step_run u records s x
    unfolding step_run
    step-skips = simp (lt-ltb u.limit (width_of u.ambiguous x) (over-limit u x g d k))

    pub step_wide-line : None ≡ (step_run u records s x).line
    step_wide-line = rw (← step-skips)

    pub step_wide-state : (n : WordWrapper) → n ≡ skip_glyph_run s → n ≡ (step_run u records s x).state
    step_wide-state n e = rw (← step-skips) e

  -- another one is joined, emitted and appended
  module _ (w : ℕ) (space : Bool) (r : WordWrapper) (k : g ≡ Some w) (f : space ≡ whitespace_of x) (p : r ≡ join_if_due_run u s w space) where
    step-goes : emit_or_append_run u records r w space ≡ step_run u records s x
    unfolding step_run
    step-goes =
        let e : w ≡ width_of u.ambiguous x = fits-read_as u x g d w k in
        simp (← e, ← f, le-ltb u.limit w (fits-limit u x g d w k)) (cc)

    pub step_fits-line : (line : Option Run) → line ≡ (emit_or_append_run u records r w space).line → line ≡ (step_run u records s x).line
    step_fits-line line q = rw (← step-goes) q

    pub step_fits-state : (n : WordWrapper) → n ≡ (emit_or_append_run u records r w space).state → n ≡ (step_run u records s x).state
    step_fits-state n q = rw (← step-goes) q

pub ruleset stepping = (step_wide-line, step_wide-state, step_fits-line, step_fits-state)
