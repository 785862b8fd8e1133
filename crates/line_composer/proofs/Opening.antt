-- A text line just opened: its lines, and the remaining lines of the text.
use Prim.Native.Nat.{ℕ, suc, ◌+◌, ◌-◌, ◌<◌}
use mathlib.Core.Path.{◌≡◌, refl, sym, ap, ◌∙◌}
use mathlib.Core.List.{List, [], ◌∷◌, ◌++◌, map}
use native.Mathlib.Numerals.{add-one}
use native.Mathlib.Omega.{arith}
use lib.ListN.{length, get_or, take, drop}
use Rattle.text.specs.declared.Alignment.{Alignment}
use Rattle.text.specs.Line.{Glyph, TextLine, numbered, until_head, lines_from}
use Rattle.text.proofs.TextLines.{AtHead, end-within, until_take, next_opens, line_first}
use Rattle.wrapping.specs.declared.Run.{Run}
use Rattle.wrapping.specs.declared.Rule.{Rule}
use Rattle.wrapping.specs.RunsExtra.{run_of}
use Rattle.word_wrapper.specs.StepsExtra.{new_wrapper}
use Rattle.word_wrapper.proofs.Simulation.{ReadAll}
use Rattle.wrapping.proofs.Renumbering.{renumber, numbered-from}
use Rattle.line_composer.specs.declared.LineComposer.{LineComposer}
use Rattle.line_composer.specs.declared.Method.{Method}
use Rattle.line_composer.specs.Lines.{aligned, lines_of, line_lines, all_lines, line_at}
use Rattle.line_composer.specs.ComposersExtra.{line_runs}
use Rattle.line_composer.specs.Marks.{MarkedLine, marked, all_marked}
use Rattle.line_composer.specs.ComposingExtra.{part, line_of_run, current_left, later_lines, remaining_lines, Ready, Opened}
use Rattle.line_composer.proofs.Methods.{starts-sound, starts-runs, lines-read, lines_of_renumbered}
use Rattle.line_composer.proofs.RunLines.{converted_glyphs}

-- the lines of runs, converted to the whole text, are the rules' lines with glyphs numbered over the whole text
module _ (u : Rule) (text : List ℕ) (from to : ℕ) (a : Alignment) where
  abbrev records : List ℕ
  records = take (to - from) (drop from text)

  converted_lines : (ls : List (List Glyph)) → ReadAll u records ls
      → map (λ (run : Run). line_at u text (line_of_run from a run)) (map run_of ls) ≡ map (aligned a) (map (map (renumber from)) ls)
  converted_lines [] r = refl
  converted_lines (l ∷ ls) r =
      let h : line_at u text (line_of_run from a (run_of l)) ≡ aligned a (map (renumber from) l)
      = converted_glyphs u text from to a (run_of l) r.0.spans ∙ ap (λ (gs : List Glyph). aligned a (map (renumber from) gs)) r.0.glyphs in
      let rest = converted_lines ls r.1 in
      cc

  module _ (method : Method) where
    pub numbered-lines : map (map (renumber from)) (lines_of u method a (numbered u.ambiguous 0 records)) ≡ lines_of u method a (numbered u.ambiguous from records)
    numbered-lines =
        let z : from + 0 ≡ from = omega arith in
        sym (lines_of_renumbered u a method from (numbered u.ambiguous 0 records))
        ∙ ap (lines_of u method a) (sym (numbered-from u.ambiguous from 0 records))
        ∙ rw z

    -- from the start of a text line
    started-lines : map (λ (run : Run). line_at u text (line_of_run from a run)) (line_runs u method a records (new_wrapper u)) ≡ map (aligned a) (lines_of u method a (numbered u.ambiguous from records))
    started-lines =
        ap (map (λ (run : Run). line_at u text (line_of_run from a run))) (starts-runs u a method records)
        ∙ converted_lines (lines_of u method a (numbered u.ambiguous 0 records)) (lines-read u a method records)
        ∙ ap (map (aligned a)) numbered-lines

-- the remaining lines with their marks, if none of the current text line was returned
abbrev pub marked_from : Rule → Alignment → List ℕ → LineComposer → List MarkedLine
marked_from u default text c = marked (current_left u text c) ++ all_marked u c.method default (later_lines text c)

-- The state c is at the start of the text line whose head is at `at`, and the head is in the text.
pub record OpenedInText (u : Rule) (method : Method) (default : Alignment) (text : List ℕ) (at : ℕ) (c : LineComposer) : Type 0 where
  pub in_text : at < length text
  pub at_head : AtHead text at
  pub opened : Opened u method default text at c

module _ (u : Rule) (method : Method) (default : Alignment) (text : List ℕ) (at : ℕ) (c : LineComposer) (q : OpenedInText u method default text at c) where
  opened-part : part text c ≡ until_head (drop (at + 1) text)
  opened-part =
      let n : c.to - c.from ≡ length (until_head (drop (at + 1) text)) = omega (arith, q.opened.from, q.opened.to) in
      rw (n, q.opened.from) (until_take (drop (at + 1) text))

  pub opened_more : at < c.to
  opened_more = omega (arith, q.opened.to)

  pub opened-ready : Ready u text c
  opened-ready =
      let next = next_opens text at (length (until_head (drop (at + 1) text))) q.in_text q.at_head refl in
      record {
        from_to = omega (arith, q.opened.from, q.opened.to);
        to_end = omega (arith, q.opened.to, end-within text at q.in_text);
        sound = rw (q.opened.composes, q.opened.wrapper) (starts-sound u method (part text c));
        head = rw q.opened.to next.head;
      }

  abbrev line : TextLine
  line = record { head = get_or text at 0; first = suc at; records = until_head (drop (at + 1) text) }

  opened-lines : current_left u text c ≡ line_lines u method default line
  unfolding line_lines
  opened-lines =
      let f : c.from ≡ suc at = q.opened.from ∙ add-one at in
      rw (q.opened.composes, q.opened.wrapper)
      (started-lines u text c.from c.to c.alignment method
      ∙ ap (λ (rs : List ℕ). map (aligned c.alignment) (lines_of u method c.alignment (numbered u.ambiguous c.from rs))) opened-part
      ∙ rw (f, q.opened.alignment))

  -- with the text lines after it
  opened-text : line ∷ later_lines text c ≡ lines_from at (drop at text)
  opened-text = rw q.opened.to (sym (line_first text at (length (until_head (drop (at + 1) text))) q.in_text q.at_head refl))

  pub opened-left : remaining_lines u default text c ≡ all_lines u method default (lines_from at (drop at text))
  unfolding remaining_lines
  opened-left = rw (opened-lines, q.opened.composes) (ap (all_lines u method default) opened-text)

  pub opened-marked : marked_from u default text c ≡ all_marked u method default (lines_from at (drop at text))
  opened-marked = rw (opened-lines, q.opened.composes) (ap (all_marked u method default) opened-text)
