-- Theorem `entries-read-back`: the entries of an accepted list call are unpacked to the fields of the composed lines, and
-- `marks-read-back`: with their marks.
use Prim.Native.Nat.{ℕ, zero, suc, ◌+◌, ◌-◌, ◌^◌, ◌<◌, ◌≤◌, min}
use mathlib.Core.Path.{◌≡◌, refl, sym, ap, ◌∙◌}
use mathlib.Core.Bool.{false}
use mathlib.Core.List.{List, [], ◌∷◌, map}
use native.Mathlib.Omega.{arith}
use lib.ListN.{length, get_or, take, drop, length-take, length-drop, length-map, get_or-append, get_or-map}
use lib.Seq.{slice}
use Rattle.std.specs.Prelude.{Ok}
use Rattle.text.specs.Alignment.{alignment_number}
use Rattle.text.specs.Line.{Glyph, glyph_from, numbered, total}
use Rattle.text.proofs.Bools.{cond_cases}
use Rattle.refuse.specs.declared.Refusal.TheVariants.{TextLength, Limit}
use Rattle.refuse.specs.Causes.{most_accepted, text_causes, line_causes}
use Rattle.refuse.proofs.Accepted.{text-short, limit_low}
use Rattle.refuse.proofs.Calls.{no_cause}
use Rattle.wrapping.specs.declared.Rule.{Rule}
use Rattle.wrapping.specs.Wrapping.{is_over_wide, not_over_wide}
use Rattle.line_composer.specs.declared.Method.TheVariants.{WordWrap}
use Rattle.line_composer.specs.Lines.{Line, first_of, end_of, wrapped_line_of, line_at}
use Rattle.line_composer.specs.Marks.{MarkedLine, with_mark}
use Rattle.line_composer.proofs.Marks.{without_marks, lines-kept}
use Rattle.line_composer.proofs.Bounds.{Narrow, narrow-lines}
use Rattle.line_composer.proofs.ReadBack.{ReadBack, read_back}
use Rattle.entry.specs.Entry.{mark_number, entry_marked, listed, entry_first, entry_end, entry_width, entry_alignment, entry_mark}
use Rattle.entry.proofs.Fields.{entry_fields, entry-mark}
use Rattle.list_lines.specs.Call.{Call, rule_for, lines_of, marked_lines_of, causes_of, verdict_of, list_after}
use Rattle.list_lines.proofs.Answers.{list-accepted}

-- what holds of every line, at an index
narrow_at : (most : ℕ) (ls : List Line) (i : ℕ) (none : Line) → i < length ls → Narrow most ls → total (get_or ls i none).glyphs ≤ most
narrow_at most [] i none h n = absurd (omega arith)
narrow_at most (line ∷ ls) zero none h n = n.0
narrow_at most (line ∷ ls) (suc i) none h n = narrow_at most ls i none (omega arith) n.1

back_at : (u : Rule) (text : List ℕ) (ls : List Line) (i : ℕ) (none : Line) → i < length ls → ReadBack u text ls
    → line_at u text (wrapped_line_of (get_or ls i none)) ≡ get_or ls i none
back_at u text [] i none h r = absurd (omega arith)
back_at u text (line ∷ ls) zero none h r = r.0
back_at u text (line ∷ ls) (suc i) none h r = back_at u text ls i none (omega arith) r.1

-- glyphs of the records from number k end at most after the last of them
end-within : (u : Rule) (k : ℕ) (rs : List ℕ) → end_of (not_over_wide u (numbered u.ambiguous k rs)) ≤ k + length rs
end-within u k [] = omega arith
end-within u k (r ∷ rs) =
    cond_cases (λ (gs : List Glyph). end_of gs ≤ k + suc (length rs)) (is_over_wide u (glyph_from u.ambiguous k r)) _ _
    (λ _. omega (arith, end-within u (suc k) rs))
    (λ _. after (not_over_wide u (numbered u.ambiguous (suc k) rs)) (end-within u (suc k) rs))
  where
    after : (gs : List Glyph) → end_of gs ≤ suc k + length rs → end_of (glyph_from u.ambiguous k r ∷ gs) ≤ k + suc (length rs)
    after [] h = omega arith
    after (g ∷ gs) h = omega arith

end_none : (u : Rule) (k : ℕ) (rs : List ℕ) → length rs ≡ 0 → end_of (not_over_wide u (numbered u.ambiguous k rs)) ≡ 0
end_none u k [] h = refl
end_none u k (r ∷ rs) h = absurd (omega arith)

-- a line read from a text ends within it
end_in_text : (u : Rule) (text : List ℕ) (line : Line) → line_at u text (wrapped_line_of line) ≡ line → end_of line.glyphs ≤ length text
unfolding line_at
end_in_text u text line e =
    let first : ℕ = (wrapped_line_of line).first in
    let end : ℕ = (wrapped_line_of line).end in
    let rs : List ℕ = slice first end text in
    let glyphs : not_over_wide u (numbered u.ambiguous first rs) ≡ line.glyphs = ap (λ (l : Line). l.glyphs) e in
    let bound : end_of (not_over_wide u (numbered u.ambiguous first rs)) ≤ length text =
    within first end (length text) (length rs) (end_of (not_over_wide u (numbered u.ambiguous first rs)))
    (length-drop first (take end text) ∙ rw (length-take end text))
    (end-within u first rs) (end_none u first rs) in
    rw glyphs at bound
  where
    within : (first end all n e : ℕ) → n ≡ min end all - first → e ≤ first + n → (n ≡ 0 → e ≡ 0) → e ≤ all
    within first end all zero e l b z = omega (arith, z refl)
    within first end all (suc n) e l b z = omega arith

-- the lines without their marks
pub lines_without_marks : (call : Call) → without_marks (marked_lines_of call) ≡ lines_of call
unfolding lines_of marked_lines_of
lines_without_marks call = lines-kept (rule_for call) WordWrap call.default_alignment call.text

pub marked-length : (call : Call) → length (marked_lines_of call) ≡ length (lines_of call)
marked-length call = sym (length-map (marked_lines_of call) (λ (m : MarkedLine). m.line)) ∙ ap length (lines_without_marks call)

-- an element of a list doesn't depend on the value given past its end
get_d_within : (l : List ℕ) (i a b : ℕ) → i < length l → get_or l i a ≡ get_or l i b
get_d_within [] i a b h = absurd (omega arith)
get_d_within (x ∷ l) zero a b h = refl
get_d_within (x ∷ l) (suc i) a b h = get_d_within l i a b (omega arith)

-- the bounds of an accepted call: causes 3 and 8 don't hold
module _ (call : Call) (a : verdict_of call ≡ Ok tt) where
  short : length call.text ≤ 16384
  unfolding verdict_of causes_of line_causes text_causes
  short = text-short most_accepted call.text (no_cause (causes_of most_accepted call) TextLength a)

  low : call.limit ≤ 4096
  unfolding verdict_of causes_of line_causes text_causes
  low = limit_low most_accepted call.limit (no_cause (causes_of most_accepted call) Limit a)

  module _ (i : ℕ) (none : MarkedLine) (h : i < length (lines_of call)) where
    abbrev line : Line
    line = get_or (lines_of call) i none.line

    abbrev marked_line : MarkedLine
    marked_line = get_or (marked_lines_of call) i none

    line_kept : line ≡ marked_line.line
    line_kept =
        ap (λ (ls : List Line). get_or ls i none.line) (sym (lines_without_marks call))
        ∙ get_or-map (λ (m : MarkedLine). m.line) (marked_lines_of call) i none

    end_fits : end_of line.glyphs < 2 ^ 15
    unfolding lines_of
    end_fits =
        let u = rule_for call in
        let text = call.text in
        omega (arith, short, end_in_text u text line (back_at u text (lines_of call) i none.line h (read_back u WordWrap call.default_alignment text)))

    width_fits : total line.glyphs < 2 ^ 16
    unfolding lines_of
    width_fits =
        let u = rule_for call in
        omega (arith, low, narrow_at (call.limit + 11) (lines_of call) i none.line h (narrow-lines u call.default_alignment call.text))

    entry-is : get_or (list_after call) i 0 ≡ entry_marked (wrapped_line_of line) marked_line.mark
    unfolding listed
    entry-is =
        let n : i < length (map listed (marked_lines_of call)) = omega (arith, length-map (marked_lines_of call) listed, marked-length call) in
        ap (λ (l : List ℕ). get_or l i 0) (list-accepted call a)
        ∙ get_or-append (map listed (marked_lines_of call)) (drop (length (lines_of call)) call.list) 0 i n
        ∙ get_d_within (map listed (marked_lines_of call)) i 0 (listed none) n
        ∙ get_or-map listed (marked_lines_of call) i none
        ∙ ap (λ (x : Line). entry_marked (wrapped_line_of x) marked_line.mark) (sym line_kept)

-- the fields of each entry that an accepted call writes are first, end, width and alignment of its composed line
pub entries-read-back :
    (call : Call) → verdict_of call ≡ Ok tt → (i : ℕ) (none : Line) → i < length (lines_of call) →
    let entry = get_or (list_after call) i 0 in
    let line = get_or (lines_of call) i none in
    (entry_first entry ≡ first_of line.glyphs)
    × (entry_end entry ≡ end_of line.glyphs)
    × (entry_width entry ≡ total line.glyphs)
    × (entry_alignment entry ≡ alignment_number line.alignment)
unfolding wrapped_line_of
entries-read-back call a i none h =
    let m : MarkedLine = with_mark none false in
    rw (entry-is call a i m h)
    (entry_fields (wrapped_line_of (line call a i m h)) (marked_line call a i m h).mark (end_fits call a i m h) (width_fits call a i m h))

-- and its mark is that of the line
pub marks-read-back :
    (call : Call) → verdict_of call ≡ Ok tt → (i : ℕ) (none : MarkedLine) → i < length (lines_of call)
    → (get_or (lines_of call) i none.line ≡ (get_or (marked_lines_of call) i none).line)
    × (entry_mark (get_or (list_after call) i 0) ≡ mark_number (get_or (marked_lines_of call) i none).mark)
marks-read-back call a i none h =
    (line_kept call a i none h, rw (entry-is call a i none h) (entry-mark (wrapped_line_of (line call a i none h)) (marked_line call a i none h).mark))
