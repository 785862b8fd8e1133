-- Not in the papers: composing one text line: its remaining lines, and what `next_line` returns.
use Rattle.std.specs.Prelude.{ℕ, ◌≡◌, cond, List, [], ◌∷◌, Option, Some, None}
use Rattle.text.specs.declared.Alignment.{Alignment}
use Rattle.text.specs.Line.{numbered}
use Rattle.wrapping.specs.declared.Run.{Run}
use Rattle.wrapping.specs.declared.Rule.{Rule}
use Rattle.word_wrapper.specs.declared.WordWrapper.{WordWrapper}
use Rattle.wrapping.specs.RunsExtra.{run_of, Spans}
use Rattle.word_wrapper.specs.PullsExtra.{WrapperInvariant, runs}
use Rattle.line_truncator.specs.Truncation.{offset_of, shown_from}
use Rattle.line_composer.specs.declared.Method.{Method}
use Rattle.line_composer.specs.declared.Method.TheVariants.{WordWrap, Truncate}

-- remaining lines of a text line with these records; truncation uses only `live` of the wrapper
unfoldable pub line_runs : Rule → Method → Alignment → List ℕ → WordWrapper → List Run
line_runs u WordWrap alignment records w = runs u records w
line_runs u (Truncate column) alignment records w =
    cond w.live (run_of (shown_from u (offset_of column alignment) 0 (numbered u.ambiguous 0 records)) ∷ []) []

-- invariant of the state within a text line
abbrev pub MethodInvariant : Rule → Method → List ℕ → WordWrapper → Type 0
MethodInvariant u WordWrap records w = WrapperInvariant u records w
MethodInvariant u (Truncate column) records w = Unit {0}

-- the line that `next_line` returns, and the lines remaining in the state that it leaves
abbrev pub pulled_runs : Rule → Method → Alignment → List ℕ → Option Run → WordWrapper → List Run
pulled_runs u method alignment records (Some run) w = run ∷ line_runs u method alignment records w
pulled_runs u method alignment records None w = []

-- what holds after `next_line`: the invariant, and the returned line lies in the text line, or no line remains
abbrev pub NextMethodRunInvariant : Rule → Method → Alignment → List ℕ → Option Run → WordWrapper → Type 0
NextMethodRunInvariant u method alignment records (Some run) w = MethodInvariant u method records w × Spans u records run
NextMethodRunInvariant u method alignment records None w = MethodInvariant u method records w × (line_runs u method alignment records w ≡ [])

-- `next_line` returns the first of the remaining lines of the state w, and leaves a state with the others
pub record PulledMethodRun (u : Rule) (method : Method) (alignment : Alignment) (records : List ℕ) (w : WordWrapper) (next : Option Run) (left : WordWrapper) : Type 0 where
  pub lines : line_runs u method alignment records w ≡ pulled_runs u method alignment records next left
  pub sound : NextMethodRunInvariant u method alignment records next left
