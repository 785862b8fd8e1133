-- Not in the papers: the invariant of the word wrapper, its remaining lines, and what `next_line` returns.
use Rattle.std.specs.Prelude.{ℕ, ◌≤◌, ◌≡◌, false, cond, List, [], ◌∷◌, ◌++◌, length, take, drop, Option, Some, None, option_to_list}
use Rattle.text.specs.Line.{Glyph, numbered}
use Rattle.wrapping.specs.declared.Run.{Run}
use Rattle.wrapping.specs.declared.Rule.{Rule}
use Rattle.word_wrapper.specs.declared.WordWrapper.{WordWrapper}
use Rattle.wrapping.specs.Wrapping.{Pending, not_over_wide}
use Rattle.wrapping.specs.RunsExtra.{run_of, Spans}
use Rattle.word_wrapper.specs.StepsExtra.{Stepped, step_run, finish_run}

-- Invariant: row, spaces and word are the runs of three consecutive lists at the end of the glyphs read so far, over-wide ones
-- left out. The glyphs before them, `left`, were emitted or dropped.
pub record Shows (u : Rule) (records : List ℕ) (s : WordWrapper) (t : Pending) : Type 0 where
  pub left : List Glyph
  pub is_row : s.row ≡ run_of t.row
  pub is_spaces : s.spaces ≡ run_of t.spaces
  pub is_word : s.word ≡ run_of t.word
  pub is_solid : s.solid ≡ t.solid
  pub split : not_over_wide u (numbered u.ambiguous 0 (take s.at records)) ≡ left ++ (t.row ++ (t.spaces ++ t.word))
  pub wordless : t.solid ≡ false → t.word ≡ []
  pub within : s.at ≤ length records

pub record WrapperInvariant (u : Rule) (records : List ℕ) (s : WordWrapper) : Type 0 where
  pub pending : Pending
  pub shows : Shows u records s pending

abbrev pub emitted_of : Stepped → List Run
emitted_of o = option_to_list o.line

-- remaining lines of a state, given the remaining records
abbrev pub runs_from : Rule → List ℕ → WordWrapper → List ℕ → List Run
runs_from u records s [] = emitted_of (finish_run u s)
runs_from u records s (r ∷ rs) = emitted_of (step_run u records s r) ++ runs_from u records (step_run u records s r).state rs

unfoldable pub runs : Rule → List ℕ → WordWrapper → List Run
runs u records s = cond s.live (runs_from u records s (drop s.at records)) []

-- the line that `next_line` returns, and the lines remaining in the state that it leaves
unfoldable pub pulled : Rule → List ℕ → Option Run → WordWrapper → List Run
pulled u records (Some line) s = line ∷ runs u records s
pulled u records None s = []

-- what holds after `next_line`: the invariant, and the returned line lies in the text line, or no line remains
abbrev pub NextRunInvariant : Rule → List ℕ → Option Run → WordWrapper → Type 0
NextRunInvariant u records (Some line) s = WrapperInvariant u records s × Spans u records line
NextRunInvariant u records None s = WrapperInvariant u records s × (runs u records s ≡ [])

-- `next_line` returns the first of the remaining lines of the state s, and leaves a state with the others
pub record PulledRun (u : Rule) (records : List ℕ) (s : WordWrapper) (next : Option Run) (left : WordWrapper) : Type 0 where
  pub lines : runs u records s ≡ pulled u records next left
  pub sound : NextRunInvariant u records next left
