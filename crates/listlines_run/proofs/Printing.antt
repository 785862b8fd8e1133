-- The output: the lines of the list's entries are those of the composed lines.
use Prim.Native.Nat.{ℕ, suc, ◌<◌, ◌≤◌}
use mathlib.Core.Path.{◌≡◌, refl, sym, ap, ◌∙◌}
use mathlib.Core.Bool.{Bool, false, cond}
use mathlib.Core.List.{List, [], ◌∷◌, ◌++◌, map}
use native.Mathlib.Omega.{arith}
use lib.ListN.{length, get_or, take, drop, length-append, length-map}
use lib.Seq.{length-take-le}
use Rattle.text.specs.declared.Alignment.TheVariants.{Left}
use Rattle.text.specs.declared.AmbiguousWidth.TheVariants.{Narrow}
use Rattle.refuse.specs.declared.Refusal.{Refusal}
use Rattle.refuse.specs.declared.Refusal.TheVariants.{Screen, Styles, TextLength, TextHeads, Titles, StyleNumber, Symbol, Limit, ListLength}
use Rattle.std.specs.Prelude.{Result, Ok, Err}
use Rattle.refuse.specs.Refusal.{Cause, ◌if◌, first_cause, Verdict, refusal_number, answering}
use Rattle.refuse.specs.Causes.{most_accepted, line_causes, list_too_short}
use Rattle.wrapping.specs.Rule.{rule_of}
use Rattle.line_composer.specs.Lines.{aligned}
use Rattle.line_composer.specs.Marks.{MarkedLine, with_mark}
use Rattle.line_composer.proofs.Bounds.{lines-short}
use Rattle.entry.specs.Entry.{listed}
use Rattle.list_lines.specs.Call.{Call, lines_of, marked_lines_of, causes_of, verdict_of, answer_of as listAnswer, list_after}
use Rattle.list_lines.proofs.Answers.{list-accepted}
use Rattle.list_lines.proofs.ReadsBack.{marked-length, entries-read-back, marks-read-back}
use Rattle.listlines_input.specs.declared.Flaw.{Flaw}
use Rattle.listlines_input.specs.declared.Flaw.TheVariants.{Form, Listed}
use Rattle.listlines_input.specs.declared.Input.{Input}
use Rattle.listlines_input.specs.Flaw.{flaw_number}
use Rattle.listlines_input.specs.Input.{records_of, most_records, parsed_of}
use Rattle.listlines_output.specs.Output.{fields_text, count_text, refused_text}
use Rattle.listlines_output.specs.EntriesExtra.{entry_text, entries_text}
use Rattle.listlines_run.specs.Program.{answer_for, call_for, answered, entered, answer_of, list_of}
use Rattle.listlines_run.specs.Printed.{line_text, lines_text, list_printed, printed, printed_of}
use Rattle.listlines_run.proofs.Answering.{Counted, counted}
use Rattle.listlines_run.proofs.Promised.{long_enough}

-- a cause that doesn't hold decides nothing
cause_clear : (causes : List Cause) (why : Refusal) (b : Bool) → b ≡ false → first_cause (causes ++ (why if b ∷ [])) ≡ first_cause causes
cause_clear [] why b e = rw e
cause_clear (c ∷ causes) why b e = ap (cond c.holds (Err c.why)) (cause_clear causes why b e)

-- lines that are equal one by one
texts_same : (none : MarkedLine) (ls : List MarkedLine) (es : List ℕ) → length ls ≤ length es
    → ((i : ℕ) → i < length ls → entry_text (get_or es i 0) ≡ line_text (get_or ls i none)) → entries_text (take (length ls) es) ≡ lines_text ls
texts_same none [] es h f = refl
texts_same none (l ∷ ls) [] h f = absurd (omega arith)
texts_same none (l ∷ ls) (e ∷ es) h f =
    let first : entry_text e ≡ line_text l = f 0 (omega arith) in
    let rest : entries_text (take (length ls) es) ≡ lines_text ls = texts_same none ls es (omega arith) (λ i (k : i < length ls). f (suc i) (omega arith)) in
    rw (first, rest)

fields_same : (a b c d e a' b' c' d' e' : ℕ) → a ≡ a' → b ≡ b' → c ≡ c' → d ≡ d' → e ≡ e' → fields_text a b c d e ≡ fields_text a' b' c' d' e'
fields_same a b c d e a' b' c' d' e' p q r s t = rw (p, q, r, s, t)

module _ (call : Call) (a : verdict_of call ≡ Ok tt) where
  enough : length (marked_lines_of call) ≤ length (list_after call)
  enough =
      rw (list-accepted call a)
      (omega (arith, length-append (map listed (marked_lines_of call)) (drop (length (lines_of call)) call.list), length-map (marked_lines_of call) listed))

  -- the text of an entry is that of its line
  entry-is-line : (i : ℕ) (none : MarkedLine) → i < length (marked_lines_of call) → entry_text (get_or (list_after call) i 0) ≡ line_text (get_or (marked_lines_of call) i none)
  unfolding entry_text line_text
  entry-is-line i none h =
      let n : i < length (lines_of call) = omega (arith, marked-length call) in
      let marks = marks-read-back call a i none n in
      let fields = rw marks.0 at (entries-read-back call a i none.line n) in
      fields_same _ _ _ _ _ _ _ _ _ _ fields.0 fields.1 fields.2 fields.3 marks.1

  entries_are_lines : entries_text (take (length (marked_lines_of call)) (list_after call)) ≡ lines_text (marked_lines_of call)
  entries_are_lines =
      let none : MarkedLine = with_mark (aligned Left []) false in
      texts_same none (marked_lines_of call) (list_after call) enough (λ i h. entry-is-line i none h)

-- the count of an answer
count_in : Result ℕ Flaw → ℕ
count_in (Ok count) = count
count_in (Err flaw) = 0

-- the output of `count` entries of a list is `bytes`
pub record LinesPrinted (count : ℕ) (list bytes : List ℕ) : Type 0 where
  pub fits : count ≤ length list
  pub few : count ≤ most_records
  pub same : entries_text (take count list) ++ count_text count ≡ bytes

number-low : (why : Refusal) → refusal_number why < 100000
number-low Screen = omega arith
number-low Styles = omega arith
number-low TextLength = omega arith
number-low TextHeads = omega arith
number-low Titles = omega arith
number-low StyleNumber = omega arith
number-low Symbol = omega arith
number-low Limit = omega arith
number-low ListLength = omega arith

pub flaw-low : (flaw : Flaw) → flaw_number flaw < 100000
flaw-low Form = omega arith
flaw-low (Listed why) = number-low why

-- the call of an accepted input
module _ (limit : ℕ) (trim : Bool) (text list : List ℕ) where
  abbrev call : Call
  call = call_for limit trim text list

  verdict_same : length list ≡ most_records → length text ≤ most_records → verdict_of call ≡ first_cause (line_causes most_accepted text limit)
  unfolding verdict_of causes_of lines_of
  verdict_same h k =
      let clear : list_too_short (length list) (length (lines_of call)) ≡ false = rw h (long_enough (rule_of Narrow limit trim) text k) in
      cause_clear (line_causes most_accepted text limit) ListLength (list_too_short (length list) (length (lines_of call))) clear

  lines-few : length text ≤ most_records → length (marked_lines_of call) ≤ most_records
  unfolding lines_of
  lines-few k = omega (arith, marked-length call, lines-short (rule_of Narrow limit trim) Left text)

  lines_by : (v : Verdict) → verdict_of call ≡ v → length text ≤ most_records → (count : ℕ)
      → answer_for (answering v (length (lines_of call))) ≡ Ok count
      → LinesPrinted count (list_after call) (list_printed v (marked_lines_of call))
  unfolding count_in
  lines_by (Ok _) a k count e =
      let n : length (marked_lines_of call) ≡ count = marked-length call ∙ ap count_in e in
      rw (← n)
      (record {
        fits = enough call a;
        few = lines-few k;
        same = ap (λ (l : List ℕ). l ++ count_text (length (marked_lines_of call))) (entries_are_lines call a);
      })
  lines_by (Err why) a k count e = absurd (let z : ◌≡◌ {A = ℕ} 0 1 = cc in omega arith)

  refused_by : (v : Verdict) (flaw : Flaw) → answer_for (answering v (length (lines_of call))) ≡ Err flaw
      → refused_text (flaw_number flaw) ≡ list_printed v (marked_lines_of call)
  refused_by (Ok _) flaw e = absurd (let z : ◌≡◌ {A = ℕ} 0 1 = cc in omega arith)
  refused_by (Err why) flaw e =
      let f : flaw ≡ Listed why = cc in
      rw f refl

lines_parsed : (p : Result Input Flaw) (text list : List ℕ) → Counted p (length text) → length list ≡ most_records → (count : ℕ) → answered p text list ≡ Ok count
    → LinesPrinted count (entered p text list) (printed p text)
unfolding Counted listAnswer lines_of marked_lines_of
lines_parsed (Err flaw) text list c h count e = absurd (let z : ◌≡◌ {A = ℕ} 0 1 = cc in omega arith)
lines_parsed (Ok settings) text list c h count e =
    let k : length text ≤ most_records = omega (arith, c.0, c.1) in
    let v = verdict_same settings.limit settings.trim text list h k in
    lines_by settings.limit settings.trim text list (first_cause (line_causes most_accepted text settings.limit)) v k count (rw v at e)

refused_parsed : (p : Result Input Flaw) (text list : List ℕ) → Counted p (length text) → length list ≡ most_records → (flaw : Flaw) → answered p text list ≡ Err flaw
    → refused_text (flaw_number flaw) ≡ printed p text
unfolding Counted listAnswer lines_of marked_lines_of
refused_parsed (Err own) text list c h flaw e = let f : flaw ≡ own = cc in rw f refl
refused_parsed (Ok settings) text list c h flaw e =
    let k : length text ≤ most_records = omega (arith, c.0, c.1) in
    refused_by settings.limit settings.trim text list (first_cause (line_causes most_accepted text settings.limit)) flaw (rw (verdict_same settings.limit settings.trim text list h k) at e)

-- r is the answer to an input
module _ (input list₀ : List ℕ) (h : length list₀ ≡ most_records) (r : Result ℕ Flaw) (e : r ≡ answer_of input list₀) where
  pub output_refusal : (flaw : Flaw) → r ≡ Err flaw → refused_text (flaw_number flaw) ≡ printed_of input
  unfolding answer_of printed_of
  output_refusal flaw q = refused_parsed (parsed_of input) (records_of input) list₀ (counted input) h flaw (sym e ∙ q)

  pub output-lines : (list : List ℕ) → list ≡ list_of input list₀ → (count : ℕ) → r ≡ Ok count → LinesPrinted count list (printed_of input)
  unfolding answer_of list_of printed_of
  output-lines list f count q = rw f (lines_parsed (parsed_of input) (records_of input) list₀ (counted input) h count (sym e ∙ q))

-- what is appended
module _ (old new bytes : List ℕ) where
  pub refusal_done : (flaw : Flaw) (number : ℕ) → number ≡ flaw_number flaw → refused_text (flaw_number flaw) ≡ bytes → new ≡ old ++ refused_text number → new ≡ old ++ bytes
  refusal_done flaw number e p w = w ∙ ap (λ n. old ++ refused_text n) e ∙ ap (λ b. old ++ b) p

  pub lines-done : (count : ℕ) (list : List ℕ) → LinesPrinted count list bytes → new ≡ old ++ (entries_text (take count list) ++ count_text (length (take count list))) → new ≡ old ++ bytes
  lines-done count list p w =
      let same : entries_text (take count list) ++ count_text (length (take count list)) ≡ bytes = rw (length-take-le count list p.fits) p.same in
      w ∙ ap (λ b. old ++ b) same

pub taken-length : (count : ℕ) (list bytes : List ℕ) → LinesPrinted count list bytes → count ≡ length (take count list)
taken-length count list bytes p = sym (length-take-le count list p.fits)
