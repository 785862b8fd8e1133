-- What `next` returns: the line, and the state that it leaves.
use Prim.Native.Nat.{ℕ}
use mathlib.Core.Path.{◌≡◌, sym, ap, ◌∙◌}
use mathlib.Core.Bool.{true, not}
use mathlib.Core.List.{List, [], ◌∷◌}
use lib.Dec.{eqb}
use lib.ListN.{drop}
use Rattle.std.specs.Prelude.{Option, Some, None}
use Rattle.text.specs.declared.Alignment.{Alignment}
use Rattle.text.specs.declared.Alignment.TheVariants.{Left}
use Rattle.wrapping.specs.declared.Rule.{Rule}
use Rattle.line_composer.specs.declared.WrappedLine.{WrappedLine}
use Rattle.line_composer.specs.declared.LineComposer.{LineComposer}
use Rattle.line_composer.specs.declared.Method.{Method}
use Rattle.line_composer.specs.Lines.{Line, aligned, line_at}
use Rattle.line_composer.specs.Marks.{MarkedLine, with_mark, marked_lines}
use Rattle.line_composer.specs.ComposingExtra.{remaining_lines, remaining_marked, Ready, Started, ReadsBack, PulledLine}

module _ (u : Rule) (default : Alignment) (text : List ℕ) (c : LineComposer) (o : Option WrappedLine) (d : LineComposer) (p : PulledLine u default text c o d) where
  module _ (line : WrappedLine) (e : o ≡ Some line) where
    pub pulled-left : remaining_lines u default text c ≡ line_at u text line ∷ remaining_lines u default text d
    pulled-left = rw e at p.pulled-lines

    pub pulled-ready : Ready u text d
    pulled-ready = (rw e at p.ready).0

    pub pulled_reads_back : ReadsBack u text line
    pulled_reads_back = (rw e at p.ready).1

    -- the line returned before it is the last of its text line if this one is of another
    pub pulled-mark : (before : Line) → remaining_marked u default text before c ≡ with_mark before (not (eqb d.from c.from)) ∷ remaining_marked u default text (line_at u text line) d
    pulled-mark before = rw e at (p.pulled-marked before)

  pub none_left : o ≡ None → remaining_lines u default text c ≡ []
  none_left e = rw e at p.pulled-lines

  -- no line remains either in the state left
  pub ended-left : o ≡ None → remaining_lines u default text d ≡ []
  ended-left e = (rw e at p.ready).1

  pub ended-ready : o ≡ None → Ready u text d
  ended-ready e = (rw e at p.ready).0

  pub last-marked : o ≡ None → (before : Line) → remaining_marked u default text before c ≡ with_mark before true ∷ []
  last-marked e before = rw e at (p.pulled-marked before)

  -- the first line of the text, or none
  module _ (method : Method) (s : Started u method text c) where
    pub marked-from-first : (line : WrappedLine) → o ≡ Some line → remaining_marked u default text (line_at u text line) d ≡ marked_lines u method default text
    marked-from-first line e =
        let none : Line = aligned Left [] in
        ap (drop {A = MarkedLine} 1) (sym (pulled-mark line e none) ∙ s.marked_left default none)

    pub nothing-marked : o ≡ None → marked_lines u method default text ≡ []
    nothing-marked e =
        let none : Line = aligned Left [] in
        ap (drop {A = MarkedLine} 1) (sym (s.marked_left default none) ∙ last-marked e none)
