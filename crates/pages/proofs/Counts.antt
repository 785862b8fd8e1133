-- same_counts: the counts of the pages' answers add up to the tally of the text at the inner width, for glyphs of any width. A
-- line's start column doesn't change how many of its glyphs are placed or clipped, and each line is on exactly one page.
use Prim.Native.Nat.{ℕ, zero, suc, ◌+◌, ◌-◌, ◌*◌, ◌<◌, ◌≤◌}
use mathlib.Core.Path.{◌≡◌, refl, sym, ap, ◌∙◌}
use mathlib.Core.Bool.{Bool}
use mathlib.Core.List.{List, [], ◌∷◌, ◌++◌}
use native.Mathlib.Nat.{div-add-mod', mod-lt}
use native.Mathlib.Omega.{arith}
use borrow.Author.Tests.{ltb-true, ltb-false, ne_eqb}
use lib.Dec.{ltb}
use lib.ListN.{length, take, drop, take-append-drop, drop_of_length-le}
use lib.Seq.{drop-drop}
use Rattle.std.specs.Prelude.{Ok}
use Rattle.text.specs.declared.Alignment.{Alignment}
use Rattle.text.specs.declared.Alignment.TheVariants.{Left}
use Rattle.text.specs.Line.{Glyph, Start, total, starts_from}
use Rattle.text.specs.Lists.{count_of}
use Rattle.text.proofs.Lists.{count-append}
use Rattle.wrapping.specs.declared.Rule.{Rule}
use Rattle.wrapping.specs.Rule.{rule_of}
use Rattle.text.proofs.Bools.{cases}
use Rattle.line_composer.specs.declared.Method.TheVariants.{WordWrap}
use Rattle.line_composer.specs.Lines.{Line, lines}
use Rattle.line_composer.specs.Places.{starts, is_placed, is_clipped}
use Rattle.render_line.specs.RenderLine.{line_offset, drawn_starts, placed_in, clipped_in}
use Rattle.render_lines.specs.declared.DrawCounts.{DrawCounts}
use Rattle.render_lines.specs.Rows.{lines_drawn, rows_drawn, sum_of, placed_on, clipped_on}
use Rattle.render_lines.proofs.Bounds.{sum-append}
use Rattle.tally_lines.specs.declared.LineCounts.{LineCounts}
use Rattle.tally_lines.specs.TallyingExtra.{line_counts}
use Rattle.tally.specs.Call as tally
use Rattle.tally.specs.Tally.{tally_of}
use Rattle.tally.proofs.EveryGlyph.{default-alignment_irrelevant}
use Rattle.paragraph.specs.Notice.{notice_lines, inner_area_of, inside_counts, notice_counts}
use Rattle.draw_notice.specs.Call.{Call, rows_of, counts_of}
use Rattle.draw_notice.specs.Pair.{pair_counts, BothAccepted}
use Rattle.draw_notice.proofs.Pair.{accepted-whole, same_as_combined}
use Rattle.pages.specs.Pages.{call_at, page_call, inner_area, composed_lines, page_count, pages_of, scroll_of}
use Rattle.pages.specs.Reading.{summed, WrappedNotice, Reached, pages_tally, SameCounts}
use Rattle.pages.proofs.Offset.{offset-fits, offset-none}
use Rattle.pages.proofs.Placed.{within-area}
use Rattle.pages.proofs.Reached.{wrapped-lines}
use Rattle.pages.proofs.Screen.{inner-some}

-- ---- the start column of a line

-- glyphs have the same counts from column a as from column b; true if they fit the area from both
record SameFrom (area a b : ℕ) (gs : List Glyph) : Type 0 where
  pub same_placed : count_of (is_placed area) (starts_from a gs) ≡ count_of (is_placed area) (starts_from b gs)
  pub same_clipped : count_of (is_clipped area) (starts_from a gs) ≡ count_of (is_clipped area) (starts_from b gs)

same_from : (area a b : ℕ) (gs : List Glyph) → a + total gs ≤ area → b + total gs ≤ area → SameFrom area a b gs
unfolding is_placed is_clipped
same_from area a b [] p q = record { same_placed = refl; same_clipped = refl }
same_from area a b (g ∷ gs) p q =
    let first = within-area area a g.width (omega arith) in
    let second = within-area area b g.width (omega arith) in
    let rest = same_from area (a + g.width) (b + g.width) gs (omega arith) (omega arith) in
    record {
      same_placed = rw (first.0, second.0, rest.same_placed);
      same_clipped = rw (first.1, second.1, rest.same_clipped);
    }

-- a line has the same counts as drawn and from column 0; one that doesn't fit starts at 0 anyway
pub drawn-counts : (area : ℕ) (line : Line)
    → (placed_in area line ≡ count_of (is_placed area) (starts_from 0 line.glyphs)) × (clipped_in area line ≡ count_of (is_clipped area) (starts_from 0 line.glyphs))
unfolding placed_in clipped_in drawn_starts
drawn-counts area line =
    let width : ℕ = total line.glyphs in
    let start : ℕ = line_offset line.alignment area width in
    cases (λ _. (count_of (is_placed area) (starts_from start line.glyphs) ≡ count_of (is_placed area) (starts_from 0 line.glyphs))
    × (count_of (is_clipped area) (starts_from start line.glyphs) ≡ count_of (is_clipped area) (starts_from 0 line.glyphs)))
    (ltb area width)
    (λ e. rw (offset-none line.alignment area width (omega (arith, ltb-true area width e))) (refl, refl))
    (λ e.
    let fits = ltb-false area width e in
    let same = same_from area start 0 line.glyphs (offset-fits line.alignment area width fits) (omega arith) in
    (same.same_placed, same.same_clipped))

-- summing a count over lines counts their glyphs, each line starting at 0
sum-starts : (test : Start → Bool) (count : Line → ℕ) → ((line : Line) → count line ≡ count_of test (starts_from 0 line.glyphs))
    → (ls : List Line) → sum_of count ls ≡ count_of test (starts ls)
sum-starts test count same [] = refl
sum-starts test count same (line ∷ rest) = rw (count-append, same line, sum-starts test count same rest)

length-sum : (ls : List Line) → length ls ≡ sum_of (λ _. 1) ls
length-sum [] = refl
length-sum (line ∷ rest) = omega (arith, length-sum rest)

-- ---- all pages together

summed_same : (a n : ℕ) (f g : ℕ → ℕ) → ((page : ℕ) → f page ≡ g page) → summed a n f ≡ summed a n g
summed_same a zero f g same = refl
summed_same a (suc n) f g same = rw (same a, summed_same (suc a) n f g same)

module _ (f : Line → ℕ) (h : ℕ) (ls : List Line) where
  abbrev page-sum : ℕ → ℕ
  page-sum page = sum_of f (take h (drop (page * h) ls))

  -- n pages from page a on contain all remaining lines
  pages-from : (a n : ℕ) → length ls ≤ (a + n) * h → summed a n page-sum ≡ sum_of f (drop (a * h) ls)
  pages-from a zero all = rw (drop_of_length-le ls {i = a * h} (omega arith))
  pages-from a (suc n) all =
      let here : List Line = drop (a * h) ls in
      let further : a * h + h ≡ suc a * h = omega arith in
      let next : drop h here ≡ drop (suc a * h) ls = drop-drop h (a * h) ls ∙ ap (λ (k : ℕ). drop k ls) further in
      let split : sum_of f (take h here ++ drop h here) ≡ sum_of f here = ap (sum_of f) (take-append-drop h here) in
      omega (arith, pages-from (suc a) n (omega arith), ap (sum_of f) next, split, sum-append f (take h here) (drop h here))

  pub pages-sum : 0 < h → summed 0 (page_count (length ls) h) page-sum ≡ sum_of f ls
  pages-sum some =
      let none : 0 * h ≡ 0 = omega arith in
      let all : length ls ≤ (0 + page_count (length ls) h) * h = omega (arith, div-add-mod' (length ls + (h - 1)) h, mod-lt (length ls + (h - 1)) some) in
      rw none at (pages-from 0 (page_count (length ls) h) all)

pub pages-length : (h : ℕ) (ls : List Line) → 0 < h → summed 0 (page_count (length ls) h) (λ page. length (take h (drop (page * h) ls))) ≡ length ls
pages-length h ls some =
    summed_same 0 (page_count (length ls) h) _ _ (λ page. length-sum (take h (drop (page * h) ls)))
    ∙ pages-sum (λ _. 1) h ls some
    ∙ sym (length-sum ls)

-- ---- the pages of a notice

-- the tally's counts of lines hold for every default alignment
tally_own : (u : Rule) (default : Alignment) (text : List ℕ) → 0 < u.limit
    → record { lines = (tally_of u text).lines; placed = (tally_of u text).placed; clipped = (tally_of u text).clipped; zero_width = (tally_of u text).zero_width }
    ≡ line_counts u.limit (lines u WordWrap default text)
unfolding tally_of line_counts
tally_own u default text some =
    rw (ne_eqb u.limit 0 (λ (e : u.limit ≡ 0). omega arith)) (default-alignment_irrelevant u text Left default)

module _ (i : Call) (w : WrappedNotice i) (accepted : (scroll : ℕ) → BothAccepted (call_at i scroll)) where
  -- the counts of a page
  page-counts : (page : ℕ)
      → let here = take (inner_area i).height (drop (scroll_of i page) (composed_lines i)) in
      pair_counts (page_call i page) ≡ record { rows = length here; placed = sum_of (placed_in (inner_area i).width) here; clipped = sum_of (clipped_in (inner_area i).width) here }
  unfolding counts_of rows_of notice_counts inside_counts inner_area composed_lines inner_area_of notice_lines rows_drawn placed_on clipped_on lines_drawn
  page-counts page =
      let both = accepted (scroll_of i page) in
      rw ((same_as_combined (page_call i page) both).counts, accepted-whole (page_call i page) both, w.some_cell)

  -- a count of glyphs, summed over the pages, is that of all lines
  pages-count : (part : DrawCounts → ℕ) (count : Line → ℕ) (test : Start → Bool)
      → ((page : ℕ) → part (pair_counts (page_call i page)) ≡ sum_of count (take (inner_area i).height (drop (scroll_of i page) (composed_lines i))))
      → ((line : Line) → count line ≡ count_of test (starts_from 0 line.glyphs))
      → summed 0 (pages_of i) (λ page. part (pair_counts (page_call i page)))
      ≡ count_of test (starts (lines (rule_of i.notice.ambiguous (inner_area i).width w.trim) WordWrap i.notice.alignment i.text))
  unfolding pages_of
  pages-count part count test on-page of-line =
      summed_same 0 (pages_of i) _ _ on-page
      ∙ pages-sum count (inner_area i).height (composed_lines i) (inner-some i w).1
      ∙ sum-starts test count of-line (composed_lines i)
      ∙ ap (λ (ls : List Line). count_of test (starts ls)) (wrapped-lines i w)

  pub same_counts : Reached i → tally.verdict_of (pages_tally i w.trim) ≡ Ok tt → SameCounts i w.trim
  unfolding pages_of line_counts tally.counts_of
  same_counts reached answered =
      let width : ℕ = (inner_area i).width in
      let tally = tally_own (rule_of i.notice.ambiguous width w.trim) i.notice.alignment i.text (inner-some i w).0 in
      record {
        reached = reached;
        answered = answered;
        rows =
            rw answered
            (summed_same 0 (pages_of i) _ _ (λ page. ap (λ (c : DrawCounts). c.rows) (page-counts page))
            ∙ pages-length (inner_area i).height (composed_lines i) (inner-some i w).1
            ∙ ap length (wrapped-lines i w)
            ∙ sym (ap (λ (c : LineCounts). c.lines) tally));
        placed =
            rw answered
            (pages-count (λ c. c.placed) (placed_in width) (is_placed width)
            (λ page. ap (λ (c : DrawCounts). c.placed) (page-counts page)) (λ line. (drawn-counts width line).0)
            ∙ sym (ap (λ (c : LineCounts). c.placed) tally));
        clipped =
            rw answered
            (pages-count (λ c. c.clipped) (clipped_in width) (is_clipped width)
            (λ page. ap (λ (c : DrawCounts). c.clipped) (page-counts page)) (λ line. (drawn-counts width line).1)
            ∙ sym (ap (λ (c : LineCounts). c.clipped) tally));
      }
