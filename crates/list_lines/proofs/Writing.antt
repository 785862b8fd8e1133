-- Laws of the loop of `write_lines`: each line that the composer returns is packed and written.
use Prim.Native.Nat.{ℕ, ◌+◌, ◌*◌, ◌^◌, ◌<◌, ◌≤◌}
use mathlib.Core.Path.{◌≡◌, refl, sym, ap, ◌∙◌}
use mathlib.Core.Bool.{Bool, true, false, not, ◌&&◌, true≢false}
use mathlib.Core.List.{List, [], ◌∷◌, ◌++◌, map, append-nil, append_assoc}
use native.Mathlib.Numerals.{add-one}
use native.Mathlib.Omega.{arith}
use mir.Val.{Fits}
use mir.Syntax.{w64}
use lib.Dec.{eqb}
use lib.ListN.{length, take, drop, set, length-set, take-append-drop}
use lib.Seq.{take-suc-set, drop-set-lt, drop-drop}
use Rattle.std.specs.Prelude.{Option, Some, None, is_some}
use Rattle.text.specs.declared.Alignment.{Alignment}
use Rattle.wrapping.specs.declared.Rule.{Rule}
use Rattle.line_composer.specs.declared.WrappedLine.{WrappedLine}
use Rattle.line_composer.specs.declared.LineComposer.{LineComposer}
use Rattle.line_composer.specs.declared.Method.TheVariants.{WordWrap}
use Rattle.line_composer.specs.Lines.{lines, wrapped_line_of, line_at}
use Rattle.line_composer.specs.Marks.{MarkedLine, with_mark, marked_lines}
use Rattle.line_composer.specs.ComposingExtra.{remaining_lines, remaining_marked, Started, ReadsBack, PulledLine}
use Rattle.line_composer.proofs.Pulled.{marked-from-first, nothing-marked}
use Rattle.line_composer.proofs.Bounds.{Narrow, narrow-lines, lines-short}
use Rattle.count_lines.proofs.Counting.{Counting, counting_starts, counting_goes, counting_done}
use Rattle.entry.specs.Entry.{entry_marked, listed}

-- Inputs of `write_lines`; `old` is the list before the call.
pub record WriteInput : Type 0 where
  pub rule : Rule
  pub default : Alignment
  pub text : List ℕ
  pub old : List ℕ

-- Loop invariant: before each turn, the entries of the first n lines are written, `line` is the next one, c has the lines after it,
-- and later entries are unchanged. No line is wider than the limit plus 11; text and limit are as the function requires.
pub record Writing (input : WriteInput) (list : List ℕ) (line : WrappedLine) (c : LineComposer) (n : ℕ) : Type 0 where
  pub counting_on : Counting input.rule input.default input.text c (n + 1)
  pub done :
      take n list ++ map listed (remaining_marked input.rule input.default input.text (line_at input.rule input.text line) c)
      ≡ map listed (marked_lines input.rule WordWrap input.default input.text)
  pub after : drop n list ≡ drop n input.old
  pub same : length list ≡ length input.old
  pub room : length (lines input.rule WordWrap input.default input.text) ≤ length input.old
  pub reads_back : ReadsBack input.rule input.text line
  pub narrow : Narrow (input.rule.limit + 11) (line_at input.rule input.text line ∷ remaining_lines input.rule input.default input.text c)
  pub short : length input.text < 2 ^ 15
  pub low : input.rule.limit + 11 < 2 ^ 16

-- the list after the call: the entries of all lines, then the old ones
abbrev pub after : WriteInput → List ℕ
after input =
    map listed (marked_lines input.rule WordWrap input.default input.text) ++ drop (length (lines input.rule WordWrap input.default input.text)) input.old

-- as above if there is a next line; if there is none, all entries are written
abbrev pub WritingNext : WriteInput → List ℕ → Option WrappedLine → LineComposer → ℕ → Type 0
WritingNext input list (Some line) c n = Writing input list line c n
WritingNext input list None c n = list ≡ after input

-- the first line, or none
module _ (input : WriteInput) (c d : LineComposer) (s : Started input.rule WordWrap input.text c) where
  abbrev counting₀ : Counting input.rule input.default input.text c 0
  counting₀ = counting_starts input.rule input.default input.text c s

  pub writing_starts : (o : Option WrappedLine) → PulledLine input.rule input.default input.text c o d
      → length input.text < 2 ^ 15 → input.rule.limit + 11 < 2 ^ 16
      → length (lines input.rule WordWrap input.default input.text) ≤ length input.old → WritingNext input input.old o d 0
  writing_starts (Some line) p short low r =
      let left = sym (s.lines_left input.default) ∙ p.pulled-lines in
      record {
        counting_on = counting_goes input.rule input.default input.text c d 0 counting₀ line p;
        done = ap (map listed) (marked-from-first input.rule input.default input.text c (Some line) d p WordWrap s line refl);
        after = refl;
        same = refl;
        room = r;
        reads_back = p.ready.1;
        narrow = rw left at (narrow-lines input.rule input.default input.text);
        short = short;
        low = low;
      }
  writing_starts None p short low r =
      let count = counting_done input.rule input.default input.text c d 0 counting₀ p in
      rw (nothing-marked input.rule input.default input.text c None d p WordWrap s refl, ← count)

module _ (input : WriteInput) (list : List ℕ) (line : WrappedLine) (c : LineComposer) (n : ℕ) (w : Writing input list line c n) where
  fewer : n < length (lines input.rule WordWrap input.default input.text)
  fewer = omega (arith, w.counting_on.counted)

  pub writing_room : n < length list
  writing_room = omega (arith, fewer, w.room, w.same)

  bounded : n + 1 < 2 ^ 16
  bounded = omega (arith, fewer, w.short, lines-short input.rule input.default input.text)

  pub writing_fits : Fits w64 (n + 1)
  writing_fits = record { fits = omega (arith, bounded) }

  pub writing_scaled : Fits w64 (n * 8)
  writing_scaled = record { fits = omega (arith, bounded) }

  pub fields_fit : (line.first < 2 ^ 15) × (line.end < 2 ^ 15) × (line.width < 2 ^ 16)
  unfolding wrapped_line_of
  fields_fit = (
    omega (arith, w.short, w.reads_back.ordered, w.reads_back.within),
    omega (arith, w.short, w.reads_back.within),
    omega (arith, w.low, w.narrow.0, ap (λ (x : WrappedLine). x.width) w.reads_back.is),
  )

  -- the entry of the line with its mark
  entry-is : (v : ℕ) (mark : Bool) → v ≡ entry_marked line mark → v ≡ listed (with_mark (line_at input.rule input.text line) mark)
  unfolding listed
  entry-is v mark f = f ∙ ap (λ (x : WrappedLine). entry_marked x mark) w.reads_back.is

  -- it is written, then the entries of the lines `left`
  one_more : (v : ℕ) (mark : Bool) (left : List MarkedLine) → v ≡ entry_marked line mark
      → remaining_marked input.rule input.default input.text (line_at input.rule input.text line) c ≡ with_mark (line_at input.rule input.text line) mark ∷ left
      → take (n + 1) (set list n v) ++ map listed left ≡ map listed (marked_lines input.rule WordWrap input.default input.text)
  one_more v mark left f e = rw (add-one n, take-suc-set list n v writing_room, append_assoc, entry-is v mark f) (rw e at w.done)

  kept : (v : ℕ) → drop (n + 1) (set list n v) ≡ drop (n + 1) input.old
  kept v =
      drop-set-lt (n + 1) list n v (omega arith)
      ∙ sym (drop-drop 1 n list) ∙ ap (drop 1) w.after ∙ drop-drop 1 n input.old

  module _ (d : LineComposer) (v : ℕ) where
    writing_goes : (next : WrappedLine) → PulledLine input.rule input.default input.text c (Some next) d
        → v ≡ entry_marked line (not (eqb d.from c.from)) → Writing input (set list n v) next d (n + 1)
    writing_goes next p f =
        record {
          counting_on = counting_goes input.rule input.default input.text c d (n + 1) w.counting_on next p;
          done = one_more v _ _ f (p.pulled-marked (line_at input.rule input.text line));
          after = kept v;
          same = length-set list n v ∙ w.same;
          room = w.room;
          reads_back = p.ready.1;
          narrow = rw p.pulled-lines at w.narrow.1;
          short = w.short;
          low = w.low;
        }

    writing_done : PulledLine input.rule input.default input.text c None d → v ≡ entry_marked line true → set list n v ≡ after input
    writing_done p f =
        let all = marked_lines input.rule WordWrap input.default input.text in
        let t : take (n + 1) (set list n v) ≡ map listed all =
        sym (append-nil (take (n + 1) (set list n v)))
        ∙ one_more v true [] f (p.pulled-marked (line_at input.rule input.text line)) in
        let k : n + 1 ≡ length (lines input.rule WordWrap input.default input.text) = counting_done input.rule input.default input.text c d (n + 1) w.counting_on p in
        let rest = kept v in
        sym (take-append-drop (n + 1) (set list n v)) ∙ cc

    module _ (none mark : Bool) (f : v ≡ entry_marked line mark) where
      -- there is no next line
      pub writing_ends : (o : Option WrappedLine) → PulledLine input.rule input.default input.text c o d → is_some o ≡ not none
          → none ≡ true → mark ≡ true → WritingNext input (set list n v) o d (n + 1)
      writing_ends (Some next) p e t l = absurd (true≢false (rw t at e))
      writing_ends None p e t l = writing_done p (rw l at f)

      -- there is one
      pub writing_on : (o : Option WrappedLine) → PulledLine input.rule input.default input.text c o d → is_some o ≡ not none
          → none ≡ false → mark ≡ not (eqb d.from c.from) → WritingNext input (set list n v) o d (n + 1)
      writing_on (Some next) p e t l = writing_goes next p (rw l at f)
      writing_on None p e t l = absurd (true≢false (sym (rw t at e)))

-- a mark that is made of two equal tests
pub same-twice : (b : Bool) → (b && b) ≡ b
same-twice true = refl
same-twice false = refl

pub next-writing : (input : WriteInput) (list : List ℕ) (o : Option WrappedLine) (line : WrappedLine) (c : LineComposer) (n : ℕ)
    → WritingNext input list o c n → o ≡ Some line → Writing input list line c n
next-writing input list o line c n w e = rw e at w
