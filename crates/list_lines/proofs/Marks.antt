-- Theorem `one-mark-each`: at limit 1 or more, of the entries of an accepted list call each text line owns exactly one that is marked,
-- its last. `none_at_zero`: at limit 0 there is no line, and the list is kept. `marks_aside`: with mark 0 each entry
-- is document 01's.
use Prim.Native.Nat.{ℕ, ◌≤◌}
use mathlib.Core.Path.{◌≡◌, refl, sym, ap, ◌∙◌}
use mathlib.Core.Bool.{Bool, true, false}
use mathlib.Core.List.{List, [], ◌∷◌, ◌++◌, map, map-append}
use native.Mathlib.Omega.{arith}
use lib.ListN.{length, take, drop, length-map}
use lib.Seq.{take_at, drop_at}
use Rattle.std.specs.Prelude.{Ok, Err}
use Rattle.text.specs.Line.{TextLine}
use Rattle.text.specs.Lists.{count_of}
use Rattle.text.proofs.Lists.{count-append}
use Rattle.refuse.specs.Refusal.{unless_refused, Verdict}
use Rattle.line_composer.specs.declared.Method.TheVariants.{WordWrap}
use Rattle.line_composer.specs.Lines.{Line, wrapped_line_of, lines}
use Rattle.line_composer.specs.Marks.{MarkedLine, with_mark, marked, all_marked, marked_lines}
use Rattle.line_composer.proofs.Marks.{without_marks, marked-kept, no_lines, some-lines}
use Rattle.entry.specs.Entry.{entry_of, listed, entry_mark, unmarked}
use Rattle.entry.proofs.Fields.{entry-mark, entry-unmarked}
use Rattle.list_lines.specs.Call.{Call, rule_for, lines_of, marked_lines_of, verdict_of, list_after}
use Rattle.list_lines.specs.Marks.{entries_of, text_lines, composed_of, owned, is_marked, last_only, OneMarkEach}
use Rattle.list_lines.proofs.Answers.{list-accepted}
use Rattle.list_lines.proofs.ReadsBack.{lines_without_marks, marked-length}

-- the entries of an accepted call
entries_are : (call : Call) → verdict_of call ≡ Ok tt → entries_of call ≡ map listed (marked_lines_of call)
unfolding entries_of
entries_are call a =
    ap (take (length (lines_of call))) (list-accepted call a)
    ∙ take_at (map listed (marked_lines_of call)) (drop (length (lines_of call)) call.list) (length (lines_of call)) (length-map (marked_lines_of call) listed ∙ marked-length call)

-- ---- one mark for each text line

mark_told : (line : Line) (mark : Bool) → is_marked (listed (with_mark line mark)) ≡ mark
unfolding listed
mark_told line true = rw (entry-mark (wrapped_line_of line) true)
mark_told line false = rw (entry-mark (wrapped_line_of line) false)

-- of the lines of one text line the last is marked, and no other
last_of_line : (ls : List Line) → map entry_mark (map listed (marked ls)) ≡ last_only (length ls)
unfolding listed
last_of_line [] = refl
last_of_line (line ∷ []) = rw (entry-mark (wrapped_line_of line) true)
last_of_line (line ∷ next ∷ rest) = rw (entry-mark (wrapped_line_of line) false) (ap {B = List ℕ} (◌∷◌ 0) (last_of_line (next ∷ rest)))

one_of_line : (ls : List Line) → 1 ≤ length ls → count_of is_marked (map listed (marked ls)) ≡ 1
one_of_line [] h = absurd (omega arith)
one_of_line (line ∷ []) h = rw (mark_told line true) (omega arith)
one_of_line (line ∷ next ∷ rest) h = rw (mark_told line false) (omega (arith, one_of_line (next ∷ rest) (omega arith)))

module _ (call : Call) where
  -- the entries of a text line, and of several
  abbrev own : TextLine → List ℕ
  own l = map listed (marked (composed_of call l))

  abbrev all : List TextLine → List ℕ
  all ls = map listed (all_marked (rule_for call) WordWrap call.default_alignment ls)

  own_then_all : (l : TextLine) (ls : List TextLine) → all (l ∷ ls) ≡ own l ++ all ls
  unfolding composed_of
  own_then_all l ls = map-append listed (marked (composed_of call l)) (all_marked (rule_for call) WordWrap call.default_alignment ls)

  own-length : (l : TextLine) → length (own l) ≡ length (composed_of call l)
  own-length l =
      length-map (marked (composed_of call l)) listed
      ∙ sym (length-map (marked (composed_of call l)) (λ (m : MarkedLine). m.line))
      ∙ ap length (marked-kept (composed_of call l))

  owned-is : (ls : List TextLine) → owned call ls (all ls) ≡ map own ls
  owned-is [] = refl
  owned-is (l ∷ ls) =
      let n = length (composed_of call l) in
      let t : take n (all (l ∷ ls)) ≡ own l = ap (take n) (own_then_all l ls) ∙ take_at (own l) (all ls) n (own-length l) in
      let d : drop n (all (l ∷ ls)) ≡ all ls = ap (drop n) (own_then_all l ls) ∙ drop_at (own l) (all ls) n (own-length l) in
      rw (t, d, owned-is ls)

  last-each_of : (ls : List TextLine) → map (map entry_mark) (map own ls) ≡ map (λ (l : TextLine). last_only (length (composed_of call l))) ls
  last-each_of [] = refl
  last-each_of (l ∷ ls) = rw (last_of_line (composed_of call l), last-each_of ls)

  module _ (some : 1 ≤ call.limit) where
    one_of : (l : TextLine) → count_of is_marked (own l) ≡ 1
    unfolding composed_of
    one_of l = one_of_line (composed_of call l) (some-lines (rule_for call) call.default_alignment some l)

    one-each_of : (ls : List TextLine) → map (count_of is_marked) (map own ls) ≡ map (λ (l : TextLine). 1) ls
    one-each_of [] = refl
    one-each_of (l ∷ ls) = rw (one_of l, one-each_of ls)

    as_many_of : (ls : List TextLine) → count_of is_marked (all ls) ≡ length ls
    as_many_of [] = refl
    as_many_of (l ∷ ls) = ap (count_of is_marked) (own_then_all l ls) ∙ count-append is_marked (own l) (all ls) ∙ omega (arith, one_of l, as_many_of ls)

    pub one-mark-each : verdict_of call ≡ Ok tt → OneMarkEach call
    unfolding marked_lines_of marked_lines
    one-mark-each a =
        let e : entries_of call ≡ all (text_lines call) = entries_are call a in
        let o : owned call (text_lines call) (entries_of call) ≡ map own (text_lines call) = ap (owned call (text_lines call)) e ∙ owned-is (text_lines call) in
        record {
          one_each = ap (map (count_of is_marked)) o ∙ one-each_of (text_lines call);
          last_each = ap (map (map entry_mark)) o ∙ last-each_of (text_lines call);
          as_many = ap (count_of is_marked) e ∙ as_many_of (text_lines call);
        }

-- ---- limit 0

kept_either_way : (v : Verdict) (list : List ℕ) → unless_refused v list list ≡ list
kept_either_way (Ok _) list = refl
kept_either_way (Err why) list = refl

pub none_at_zero : (call : Call) → call.limit ≡ 0 → (lines_of call ≡ []) × (list_after call ≡ call.list)
unfolding lines_of marked_lines_of list_after
none_at_zero call e =
    let u = rule_for call in
    let none : lines u WordWrap call.default_alignment call.text ≡ [] = no_lines u call.default_alignment e call.text in
    let bare-none : length (marked_lines u WordWrap call.default_alignment call.text) ≡ 0 = marked-length call ∙ ap length none in
    (none, rw (none, nil_of (marked_lines u WordWrap call.default_alignment call.text) bare-none) (kept_either_way (verdict_of call) call.list))
  where
    nil_of : (ms : List MarkedLine) → length ms ≡ 0 → ms ≡ []
    nil_of [] h = refl
    nil_of (m ∷ ms) h = absurd (omega arith)

-- ---- the entries without their marks

entries_without_marks : (ms : List MarkedLine) → map unmarked (map listed ms) ≡ map entry_of (without_marks ms)
unfolding listed
entries_without_marks [] = refl
entries_without_marks (m ∷ ms) = rw (entry-unmarked (wrapped_line_of m.line) m.mark, entries_without_marks ms)

pub marks_aside : (call : Call) → verdict_of call ≡ Ok tt → map unmarked (entries_of call) ≡ map entry_of (lines_of call)
marks_aside call a = ap (map unmarked) (entries_are call a) ∙ entries_without_marks (marked_lines_of call) ∙ ap (map entry_of) (lines_without_marks call)
