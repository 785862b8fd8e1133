-- Not in the papers: the state of composing a text, its remaining lines, and what `next` returns.
use Rattle.std.specs.Prelude.{ℕ, ◌+◌, ◌-◌, ◌<◌, ◌≤◌, ◌≡◌, true, cond, not, eqb, List, [], ◌∷◌, ◌++◌, map, length, get_or, take, drop, Option, Some, None}
use Rattle.text.specs.declared.Alignment.{Alignment}
use Rattle.text.specs.Record.{is_head, alignment_of}
use Rattle.text.specs.Alignment.{resolved}
use Rattle.text.specs.Line.{TextLine, until_head, lines_from}
use Rattle.wrapping.specs.declared.Run.{Run}
use Rattle.wrapping.specs.declared.Rule.{Rule}
use Rattle.word_wrapper.specs.StepsExtra.{new_wrapper}
use Rattle.line_composer.specs.declared.WrappedLine.{WrappedLine}
use Rattle.line_composer.specs.declared.LineComposer.{LineComposer}
use Rattle.line_composer.specs.declared.Method.{Method}
use Rattle.line_composer.specs.ComposersExtra.{line_runs, MethodInvariant}
use Rattle.line_composer.specs.Lines.{Line, all_lines, lines, wrapped_line_of, line_at}
use Rattle.line_composer.specs.Marks.{MarkedLine, with_mark, marked, all_marked, marked_lines}

-- the records of the current text line, a slice of the text
abbrev pub part : List ℕ → LineComposer → List ℕ
part text c = take (c.to - c.from) (drop c.from text)

-- a run of that slice, converted to record numbers of the whole text
unfoldable pub line_of_run : ℕ → Alignment → Run → WrappedLine
line_of_run from alignment run =
    cond (eqb run.end 0)
    (record { first = 0; end = 0; width = run.width; alignment = alignment })
    (record { first = from + run.first; end = from + run.end; width = run.width; alignment = alignment })

-- the remaining lines of the current text line, and the text lines after it
abbrev pub current_left : Rule → List ℕ → LineComposer → List Line
current_left u text c =
    map (λ (run : Run). line_at u text (line_of_run c.from c.alignment run)) (line_runs u c.method c.alignment (part text c) c.wrapper)

abbrev pub later_lines : List ℕ → LineComposer → List TextLine
later_lines text c = lines_from c.to (drop c.to text)

-- the remaining lines: those of the current text line, then those of the text lines after it
unfoldable pub remaining_lines : Rule → Alignment → List ℕ → LineComposer → List Line
remaining_lines u default text c = current_left u text c ++ all_lines u c.method default (later_lines text c)

-- the remaining lines with their marks, after a line `before` that was returned and is of the current text line
unfoldable pub remaining_marked : Rule → Alignment → List ℕ → Line → LineComposer → List MarkedLine
remaining_marked u default text before c = marked (before ∷ current_left u text c) ++ all_marked u c.method default (later_lines text c)

-- invariant of the state
pub record Ready (u : Rule) (text : List ℕ) (c : LineComposer) : Type 0 where
  pub from_to : c.from ≤ c.to
  pub to_end : c.to ≤ length text
  pub sound : MethodInvariant u c.method (part text c) c.wrapper
  pub head : c.to < length text → is_head (get_or text c.to 0) ≡ true

-- the state c is at the start of the text line whose head is at `at`
pub record Opened (u : Rule) (method : Method) (default : Alignment) (text : List ℕ) (at : ℕ) (c : LineComposer) : Type 0 where
  pub composes : c.method ≡ method
  pub wrapper : c.wrapper ≡ new_wrapper u
  pub from : c.from ≡ at + 1
  pub to : c.to ≡ at + 1 + length (until_head (drop (at + 1) text))
  pub alignment : c.alignment ≡ resolved (alignment_of (get_or text at 0)) default

-- the state c is at the start of the text; a line before it, if there were one, would be the last of its text line
pub record Started (u : Rule) (method : Method) (text : List ℕ) (c : LineComposer) : Type 0 where
  pub ready : Ready u text c
  pub lines_left : (default : Alignment) → remaining_lines u default text c ≡ lines u method default text
  pub marked_left : (default : Alignment) (before : Line) → remaining_marked u default text before c ≡ with_mark before true ∷ marked_lines u method default text

-- a returned line has the fields of its glyphs, and lies in the text
pub record ReadsBack (u : Rule) (text : List ℕ) (line : WrappedLine) : Type 0 where
  pub is : line ≡ wrapped_line_of (line_at u text line)
  pub within : line.end ≤ length text
  pub ordered : line.first ≤ line.end

-- the line that `next` returns, and the lines remaining in the state that it leaves
abbrev pub pulled_lines : Rule → Alignment → List ℕ → Option WrappedLine → LineComposer → List Line
pulled_lines u default text (Some line) left = line_at u text line ∷ remaining_lines u default text left
pulled_lines u default text None left = []

-- the line returned last, `before`, is the last of its text line if the next one is of another text line, or there is none
abbrev pub pulled_marked : Rule → Alignment → List ℕ → LineComposer → Line → Option WrappedLine → LineComposer → List MarkedLine
pulled_marked u default text c before (Some line) left = with_mark before (not (eqb left.from c.from)) ∷ remaining_marked u default text (line_at u text line) left
pulled_marked u default text c before None left = with_mark before true ∷ []

-- what holds after `next`: the invariant, and the returned line reads back, or no line remains
abbrev pub ReadyPull : Rule → Alignment → List ℕ → Option WrappedLine → LineComposer → Type 0
ReadyPull u default text (Some line) left = Ready u text left × ReadsBack u text line
ReadyPull u default text None left = Ready u text left × (remaining_lines u default text left ≡ [])

-- `next` returns the first of the remaining lines of the state c, and leaves a state with the others; the states before and after it
-- tell the mark of the line returned before
pub record PulledLine (u : Rule) (default : Alignment) (text : List ℕ) (c : LineComposer) (next : Option WrappedLine) (left : LineComposer) : Type 0 where
  pub pulled-lines : remaining_lines u default text c ≡ pulled_lines u default text next left
  pub pulled-marked : (before : Line) → remaining_marked u default text before c ≡ pulled_marked u default text c before next left
  pub ready : ReadyPull u default text next left
