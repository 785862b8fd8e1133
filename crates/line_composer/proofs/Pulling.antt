-- Laws of the loop of `next`: the current text line gives its next line, or the next text line is opened.
use Prim.Native.Nat.{ℕ, ◌-◌, ◌≤◌, ◌<◌}
use mathlib.Core.Path.{◌≡◌, refl, sym, ap, ◌∙◌}
use mathlib.Core.Bool.{Bool, true, false, cond, not}
use mathlib.Core.List.{List, [], ◌∷◌, ◌++◌}
use native.Mathlib.Omega.{arith}
use borrow.Author.Tests.{eq-eqb, ne_eqb}
use lib.Dec.{eqb}
use lib.ListN.{length, take, drop, drop_of_length-le}
use Rattle.std.specs.Prelude.{Option, Some, None}
use Rattle.text.specs.declared.Alignment.{Alignment}
use Rattle.text.specs.declared.Alignment.TheVariants.{Left}
use Rattle.text.specs.Line.{lines_from, Opens}
use Rattle.text.proofs.TextLines.{opens-start}
use Rattle.wrapping.specs.declared.Run.{Run}
use Rattle.wrapping.specs.declared.Rule.{Rule}
use Rattle.word_wrapper.specs.declared.WordWrapper.{WordWrapper}
use Rattle.word_wrapper.specs.StepsExtra.{new_wrapper, close_run}
use Rattle.wrapping.specs.RunsExtra.{Spans}
use Rattle.line_composer.specs.declared.Method.{Method}
use Rattle.line_composer.specs.declared.WrappedLine.{WrappedLine}
use Rattle.line_composer.specs.declared.LineComposer.{LineComposer}
use Rattle.line_composer.specs.Lines.{Line, all_lines, lines, line_at}
use Rattle.line_composer.specs.Marks.{MarkedLine, with_mark, marked, all_marked, marked_lines}
use Rattle.line_composer.specs.ComposingExtra.{part, line_of_run, current_left, later_lines, remaining_lines, remaining_marked, Ready, Opened, Started, PulledLine}
use Rattle.line_composer.specs.ComposersExtra.{line_runs, MethodInvariant, PulledMethodRun}
use Rattle.line_composer.proofs.Methods.{starts-sound, closed_none, closed_sound}
use Rattle.line_composer.proofs.RunLines.{converted_reads_back}
use Rattle.line_composer.proofs.Opening.{OpenedInText, opened_more, opened-ready, opened-left, marked_from, opened-marked}

-- the remaining lines with their marks, after the line `before` of the initial state s: `before` is the last of its text line if the
-- state c is in another one
unfoldable pub waiting : Rule → Alignment → List ℕ → LineComposer → Line → LineComposer → List MarkedLine
waiting u default text s before c =
    cond (eqb c.from s.from)
    (remaining_marked u default text before c)
    (with_mark before true ∷ marked_from u default text c)

-- Loop invariant: before each turn, the state c meets its invariant and has the remaining lines of the initial state s. It is in the text
-- line of s, or in a later one, and by that the marks of the remaining lines are those of s.
pub record Composing (u : Rule) (default : Alignment) (text : List ℕ) (s c : LineComposer) : Type 0 where
  pub ready : Ready u text c
  pub same : remaining_lines u default text s ≡ remaining_lines u default text c
  pub forward : s.from ≤ c.from
  pub same_marked : (before : Line) → remaining_marked u default text before s ≡ waiting u default text s before c

pub composing_starts : (u : Rule) (default : Alignment) (text : List ℕ) (s : LineComposer) → Ready u text s → Composing u default text s s
unfolding waiting
composing_starts u default text s r =
    record { ready = r; same = refl; forward = omega arith; same_marked = λ before. rw (eq-eqb s.from s.from refl) }

-- The current text line has another line, or none; `before` is of it if `same` is true, else of an earlier one.
mark_line : (same : Bool) (before line : Line) (rest : List Line) (later : List MarkedLine)
    → cond same (marked (before ∷ line ∷ rest) ++ later) (with_mark before true ∷ (marked (line ∷ rest) ++ later)) ≡ with_mark before (not same) ∷ (marked (line ∷ rest) ++ later)
mark_line true before line rest later = refl
mark_line false before line rest later = refl

mark-last : (same : Bool) (before : Line) (later : List MarkedLine)
    → cond same (marked (before ∷ []) ++ later) (with_mark before true ∷ (marked [] ++ later)) ≡ with_mark before true ∷ later
mark-last true before later = refl
mark-last false before later = refl

module _ (u : Rule) (default : Alignment) (text : List ℕ) (s c : LineComposer) (p : Composing u default text s c) (o : Option Run) (n : WordWrapper) (q : PulledMethodRun u c.method c.alignment (part text c) c.wrapper o n) where
  module _ (run : Run) (e : o ≡ Some run) where
    sound : MethodInvariant u c.method (part text c) n × Spans u (part text c) run
    sound = rw e at q.sound

    spans : Spans u (part text c) run
    spans = sound.1

    pub pull_line : (line : WrappedLine) → line ≡ line_of_run c.from c.alignment run
        → PulledLine u default text s (Some line) (record { method = c.method; wrapper = n; from = c.from; to = c.to; alignment = c.alignment })
    unfolding remaining_lines remaining_marked waiting
    pull_line line f =
        let r : line_runs u c.method c.alignment (part text c) c.wrapper ≡ run ∷ line_runs u c.method c.alignment (part text c) n = rw e at q.lines in
        let d : LineComposer = record { method = c.method; wrapper = n; from = c.from; to = c.to; alignment = c.alignment } in
        record {
          pulled-lines = p.same ∙ rw (r, f);
          pulled-marked = λ before.
              p.same_marked before
              ∙ rw (r, f)
              (mark_line (eqb c.from s.from) before (line_at u text (line_of_run c.from c.alignment run)) (current_left u text d) (all_marked u c.method default (later_lines text d)));
          ready = (
            record { from_to = p.ready.from_to; to_end = p.ready.to_end; sound = sound.0; head = p.ready.head },
            rw f (converted_reads_back u text c.from c.to c.alignment run spans),
          );
        }

  module _ (e : o ≡ None) where
    later-left : remaining_lines u default text c ≡ all_lines u c.method default (later_lines text c)
    unfolding remaining_lines
    later-left = let r : line_runs u c.method c.alignment (part text c) c.wrapper ≡ [] = rw e at q.lines in rw r

    later-marked : (before : Line) → waiting u default text s before c ≡ with_mark before true ∷ all_marked u c.method default (later_lines text c)
    unfolding remaining_marked waiting
    later-marked before =
        let r : line_runs u c.method c.alignment (part text c) c.wrapper ≡ [] = rw e at q.lines in
        rw r (mark-last (eqb c.from s.from) before (all_marked u c.method default (later_lines text c)))

    pub pull_done : length text ≤ c.to → PulledLine u default text s None (record { method = c.method; wrapper = n; from = c.from; to = c.to; alignment = c.alignment })
    unfolding remaining_lines
    pull_done h =
        let z : drop c.to text ≡ [] = drop_of_length-le text h in
        let r : MethodInvariant u c.method (part text c) n × (line_runs u c.method c.alignment (part text c) n ≡ []) = rw e at q.sound in
        record {
          pulled-lines = p.same ∙ later-left ∙ ap (λ (l : List ℕ). all_lines u c.method default (lines_from c.to l)) z;
          pulled-marked = λ before.
              p.same_marked before ∙ later-marked before ∙ ap (λ (l : List ℕ). with_mark before true ∷ all_marked u c.method default (lines_from c.to l)) z;
          ready = (
            record { from_to = p.ready.from_to; to_end = p.ready.to_end; sound = r.0; head = p.ready.head },
            rw (r.1, z),
          );
        }

    module _ (m : LineComposer) (k : c.to < length text) (f : Opened u c.method default text c.to m) where
      opened_next : OpenedInText u c.method default text c.to m
      opened_next = record { in_text = k; at_head = record { within = p.ready.to_end; head = p.ready.head }; opened = f }

      pub composing_opens : Composing u default text s m
      unfolding waiting
      composing_opens =
          let further : m.from ≡ s.from → ⊥ = λ k. omega (arith, f.from, p.forward, p.ready.from_to) in
          record {
            ready = opened-ready u c.method default text c.to m opened_next;
            same = p.same ∙ later-left ∙ sym (opened-left u c.method default text c.to m opened_next);
            forward = omega (arith, f.from, p.forward, p.ready.from_to);
            same_marked = λ before.
                p.same_marked before ∙ later-marked before
                ∙ rw (ne_eqb m.from s.from further, opened-marked u c.method default text c.to m opened_next);
          }

      pub composing_less : length text - m.to < length text - c.to
      composing_less = omega (arith, opened_more u c.method default text c.to m opened_next)

pub ruleset composing = (composing_starts, pull_line, pull_done, composing_opens, composing_less)

-- the state before a text's first line is at the end of a text line without remaining lines
pub started : (u : Rule) (method : Method) (text : List ℕ) (w n : WordWrapper) → n ≡ new_wrapper u → w ≡ close_run n → Opens text
    → Started u method text (record { method = method; wrapper = w; from = 0; to = 0; alignment = Left })
unfolding remaining_lines lines remaining_marked marked_lines
started u method text w n e f h =
    let z : line_runs u method Left (take (0 - 0) (drop 0 text)) w ≡ [] = rw f (closed_none u _ n method Left) in
    record {
      ready = record { from_to = omega arith; to_end = omega arith; sound = rw f (closed_sound u _ n method (rw e (starts-sound u method _))); head = (opens-start text h).head };
      lines_left = λ default. rw z;
      marked_left = λ default before. rw z;
    }
