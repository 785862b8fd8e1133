-- The call `pages`: its answers, their numbers in document 01, and the order of its causes.
-- Theorem `pages-answered`: inner area, lines and pages in the answer are those of the theorem `pages` in the crate pages. Theorem
-- `same-inner`: that area is the one that `draw_frame` answers.
-- Theorem `caller_reads_all`: a caller that draws the pages of the answer reads every non-whitespace glyph, once, in order.
use Prim.Native.Nat.{ℕ, ◌<◌, ◌≤◌}
use mathlib.Core.Path.{◌≡◌, refl, sym, ap, ◌∙◌}
use mathlib.Core.Bool.{true, false}
use mathlib.Core.List.{map}
use native.Mathlib.Omega.{arith}
use mir.Val.{Fits}
use mir.Syntax.{w32}
use lib.ListN.{length}
use Rattle.std.specs.Prelude.{Ok}
use Rattle.text.specs.Line.{glyphs_from}
use Rattle.text.proofs.Bools.{cond_cases}
use Rattle.layout.specs.declared.Rect.{Rect}
use Rattle.layout.specs.Rect.{is_empty}
use Rattle.layout.proofs.NotEmpty.{not-empty}
use Rattle.refuse.specs.declared.Ceilings.{Ceilings}
use Rattle.refuse.specs.Refusal.{verdict_number, Verdict}
use Rattle.refuse.proofs.Calls.{result_number, result_value}
use Rattle.refuse.proofs.Lowest.{InOrder}
use Rattle.paragraph.specs.Notice.{settings_of, notice_lines, inner_area_of}
use Rattle.inner.specs.Call.{inner_answer_rect}
use Rattle.draw_frame.specs.Call.{answer_of as frameAnswer}
use Rattle.draw_notice.specs.Call.{Call, causes_of, verdict_of, screen_in}
use Rattle.draw_notice.specs.Pair.{frame_call, BothAccepted, frame_number, text_number, Split}
use Rattle.draw_notice.proofs.Answers as draw-laws
use Rattle.draw_notice.proofs.Answers.{text-sound}
use Rattle.draw_notice.proofs.Pair.{split, accepted-whole, area-answered}
use Rattle.pages.specs.Pages.{inner_area, composed_lines, page_count, pages_of}
use Rattle.pages.specs.Reading.{Seen, pages_read, OneCell, WrappedNotice}
use Rattle.pages.proofs.Pages.{pages}
use Rattle.count_pages.specs.declared.PageCounts.{PageCounts}
use Rattle.count_pages.specs.Call.{pages_in, answer_of, no_page_counts, counts_of, pages_answer_counts}
use Rattle.count_pages.specs.CallerExtra.{answered, read_by, CallerReadsAll}
use Rattle.count_pages.proofs.Lines.{notice-lines-few}

-- a call is refused if and only if a cause holds, and for the lowest such cause
pub lowest-first : (most : Ceilings) (call : Call) → InOrder (causes_of most call)
lowest-first most call = draw-laws.lowest-first most call

module _ (call : Call) where
  pub answer_number : verdict_number (answer_of call) ≡ verdict_number (verdict_of call)
  unfolding answer_of
  answer_number = result_number (verdict_of call) (pages_in call)

  pub answer_counts : pages_answer_counts (answer_of call) ≡ counts_of call
  unfolding answer_of counts_of
  answer_counts = result_value pages_answer_counts (λ counts. counts) no_page_counts (λ counts. refl) (λ why. refl) (verdict_of call) (pages_in call)

  -- the call is accepted exactly where the notice's two calls are, and refused where one of them is
  pub pages_split : Split (verdict_number (answer_of call)) (frame_number call) (text_number call)
  pages_split = rw answer_number (split call)

  -- accepted, with a non-empty inner area
  pub pages-answered : verdict_of call ≡ Ok tt → is_empty (inner_area call) ≡ false
      → pages_answer_counts (answer_of call) ≡ record { inner = inner_area call; lines = length (composed_lines call); pages = pages_of call }
  unfolding answer_of pages_in
  pages-answered accepted some = rw (accepted, some)

  -- accepted, with an empty inner area
  pub none-answered : verdict_of call ≡ Ok tt → is_empty (inner_area call) ≡ true
      → pages_answer_counts (answer_of call) ≡ record { inner = inner_area call; lines = 0; pages = 0 }
  unfolding answer_of pages_in
  none-answered accepted empty = rw (accepted, empty)

  -- the area in the answer is the one that the notice's frame answers
  pub same-inner : BothAccepted call → (pages_answer_counts (answer_of call)).inner ≡ inner_answer_rect (frameAnswer (frame_call call))
  unfolding answer_of pages_in inner_area
  same-inner both =
      let inner = inner_area_of (screen_in call) call.titles call.notice.block call.area in
      rw (accepted-whole call both, area-answered call both)
      (cond_cases (λ (c : PageCounts). c.inner ≡ inner) (is_empty inner) _ _ (λ _. refl) (λ _. refl))

  -- v is the verdict of the checks
  module _ (v : Verdict) (e : v ≡ verdict_of call) where
    module _ (a : v ≡ Ok tt) (inner : Rect) (i : inner ≡ inner_area_of (screen_in call) call.titles call.notice.block call.area) where
      pub pages-none : is_empty inner ≡ true → Ok (record { inner = inner; lines = 0; pages = 0 }) ≡ answer_of call
      unfolding answer_of pages_in inner_area
      pages-none empty =
          let k : verdict_of call ≡ Ok tt = sym e ∙ a in
          let f : is_empty (inner_area_of (screen_in call) call.titles call.notice.block call.area) ≡ true = rw i at empty in
          rw (k, f, i)

      module _ (some : is_empty inner ≡ false) where
        pub inner_sizes : (0 < inner.width) × (0 < inner.height)
        inner_sizes = not-empty inner some

        module _ (lines : ℕ) (l : lines ≡ length (notice_lines (settings_of call.notice) call.text inner.width)) where
          pub few-lines : lines ≤ 16384
          few-lines = omega (arith, l, notice-lines-few (settings_of call.notice) inner.width call.text inner_sizes.0, (text-sound call (sym e ∙ a)).short)

          pub lines_fit : Fits w32 lines
          lines_fit = record { fits = omega (arith, few-lines) }

          pub pages-counted : (pages : ℕ) → pages ≡ page_count lines inner.height → Ok (record { inner = inner; lines = lines; pages = pages }) ≡ answer_of call
          unfolding answer_of pages_in inner_area composed_lines pages_of
          pages-counted pages p =
              let k : verdict_of call ≡ Ok tt = sym e ∙ a in
              let f : is_empty (inner_area_of (screen_in call) call.titles call.notice.block call.area) ≡ false = rw i at some in
              rw (k, f, p, l, i)

-- demand 3 for the pages of the answer
pub caller_reads_all : (call : Call) → WrappedNotice call → OneCell (glyphs_from call.notice.ambiguous 0 call.text) → CallerReadsAll call
unfolding read_by pages_read
caller_reads_all call w cells =
    let same = pages-answered call (accepted-whole call w.accepted) w.some_cell in
    let shown = pages call w cells in
    let read : read_by call (answered call) ≡ pages_read call = ap (read_by call) same in
    record {
      scrolls = λ page there. rw same (shown.reached page (rw same at there)).0;
      symbols = ap (map (λ (s : Seen). s.symbol)) read ∙ shown.symbols;
      places = read ∙ shown.places;
    }
