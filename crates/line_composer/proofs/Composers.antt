-- One law for each path through `next_line`.
use Prim.Native.Nat.{ℕ}
use mathlib.Core.Path.{◌≡◌}
use mathlib.Core.Bool.{true, false}
use mathlib.Core.List.{List}
use Rattle.std.specs.Prelude.{Option, Some, None}
use Rattle.text.specs.declared.Alignment.{Alignment}
use Rattle.text.specs.Line.{numbered}
use Rattle.wrapping.specs.declared.Run.{Run}
use Rattle.wrapping.specs.declared.Rule.{Rule}
use Rattle.word_wrapper.specs.declared.WordWrapper.{WordWrapper}
use Rattle.wrapping.specs.RunsExtra.{run_of, Spans}
use Rattle.word_wrapper.specs.StepsExtra.{close_run}
use Rattle.word_wrapper.specs.PullsExtra.{WrapperInvariant, pulled, PulledRun}
use Rattle.line_truncator.specs.Truncation.{offset_of, shown_from}
use Rattle.line_truncator.proofs.Truncated.{shown_read}
use Rattle.line_composer.specs.declared.Method.{Method}
use Rattle.line_composer.specs.declared.Method.TheVariants.{WordWrap, Truncate}
use Rattle.line_composer.specs.ComposersExtra.{line_runs, MethodInvariant, PulledMethodRun}

module _ (u : Rule) (a : Alignment) (records : List ℕ) (w : WordWrapper) where
  wrapped-pulled : (next : Option Run) (n : WordWrapper) → PulledRun u records w next n → PulledMethodRun u WordWrap a records w next n
  unfolding line_runs pulled
  wrapped-pulled (Some run) n p = record { lines = p.lines; sound = p.sound }
  wrapped-pulled None n p = record { lines = p.lines; sound = p.sound }

  module _ (method : Method) where
    -- wrapping
    module _ (e : method ≡ WordWrap) where
      pub wrapping_sound : MethodInvariant u method records w → WrapperInvariant u records w
      wrapping_sound h = rw e at h

      pub wrapping_next : (next : Option Run) (n : WordWrapper) → PulledRun u records w next n → PulledMethodRun u method a records w next n
      wrapping_next next n p = rw e (wrapped-pulled next n p)

    -- truncating
    module _ (column : ℕ) (e : method ≡ Truncate column) where
      pub truncating_line : w.live ≡ true → (run : Run) → run ≡ run_of (shown_from u (offset_of column a) 0 (numbered u.ambiguous 0 records))
          → (n : WordWrapper) → n ≡ close_run w → PulledMethodRun u method a records w (Some run) n
      unfolding line_runs close_run
      truncating_line l run f n g =
          let spans : Spans u records run = rw f (shown_read u (offset_of column a) records).spans in
          rw (e, g) (record { lines = rw (l, f); sound = (tt, spans) })

      pub truncating_done : w.live ≡ false → PulledMethodRun u method a records w None w
      unfolding line_runs
      truncating_done l = rw e (record { lines = rw l; sound = (tt, rw l) })

pub ruleset pulling-lines = (wrapping_sound, wrapping_next, truncating_line, truncating_done)
