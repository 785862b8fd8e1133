-- The pages of an accepted, wrapped notice with a non-empty inner area that `preview` shows from scroll row 0 are those of
-- demand 3:
-- same_measure: the size and the lines that it counts pages by are those of the inner area.
-- same_count: it counts as many pages, but at least 1, so that a frame without lines is shown.
-- same-call: it draws each page by the same two calls.
use Prim.Native.Nat.{ℕ, zero, suc, ◌+◌, ◌-◌, ◌*◌, ◌<◌, ◌≤◌, min, max}
use mathlib.Core.Path.{◌≡◌, refl, sym, ap, ◌∙◌}
use mathlib.Core.Bool.{Bool}
use mathlib.Core.Logic.{dite}
use mathlib.Core.List.{List, []}
use native.Mathlib.Decide.{dec_lt}
use native.Mathlib.Nat.{add-zero}
use native.Mathlib.Omega.{arith}
use borrow.Author.Tests.{ne_eqb, le-ltb}
use lib.ListN.{length, replicate}
use Rattle.text.specs.declared.AmbiguousWidth.{AmbiguousWidth}
use Rattle.cell.specs.Cell.{blank_cell}
use Rattle.refuse.specs.declared.Refusal.TheVariants.{TextLength, TextHeads, Titles, Symbol}
use Rattle.refuse.specs.Causes.{most_accepted, screen_causes, text_causes, titles_wrong}
use Rattle.refuse.proofs.Calls.{no_cause}
use Rattle.block.specs.Causes.{block_symbols, border_symbols}
use Rattle.block.specs.Inner.{has_title_at, vertical_space}
use Rattle.check_block.specs.Causes.{frame_causes}
use Rattle.line_composer.specs.declared.Wrap.{Wrap}
use Rattle.line_composer.specs.declared.Wrap.TheVariants.{On}
use Rattle.measure_text.specs.Measures.{lines_at, line_count}
use Rattle.inner.specs.Call as inner
use Rattle.measure.specs.LineWidth as width
use Rattle.measure.specs.LineCount as count
use Rattle.paragraph.specs.Notice.{inner_area_of}
use Rattle.draw_notice.specs.Call.{Call, causes_of, verdict_of}
use Rattle.draw_notice.proofs.Pair.{accepted-whole}
use Rattle.pages.specs.Pages.{inner_area, composed_lines, page_count, pages_of, scroll_of, page_call}
use Rattle.pages.specs.Reading.{WrappedNotice}
use Rattle.pages.proofs.Screen.{screen_sized, inner-some}
use Rattle.pages.proofs.Reached.{few_columns, left-lines, reached_16}
use Rattle.flat.specs.FlatExtra.{ambiguous_named, shadow_named, block_from, notice_from, wrap_named}
use Rattle.preview_file.specs.declared.Opening.{Opening}
use Rattle.std.specs.Prelude.{Ok}
use Rattle.preview_sheet.specs.PagingExtra.{pages_from}
use Rattle.preview_sheet.specs.SheetExtra.{call_at, nothing_set, lines_in, met_of, fitting_of}

-- first line of a page: the notice's scroll row, then `next_first` once for each page
abbrev pub first_of : ℕ → ℕ → ℕ → ℕ
first_of scroll height zero = scroll
first_of scroll height (suc page) = min (first_of scroll height page + height) 65535

first-sum : (scroll height page : ℕ) → scroll ≤ 65535 → first_of scroll height page ≡ min (scroll + page * height) 65535
first-sum scroll height zero h = let none : zero * height ≡ 0 = omega arith in omega arith
first-sum scroll height (suc page) h =
    let next : suc page * height ≡ height + page * height = omega arith in
    omega (arith, first-sum scroll height page h)

count-from-top : (lines scroll height : ℕ) → scroll ≡ 0 → 0 < height → pages_from lines scroll height ≡ max 1 (page_count lines height)
unfolding pages_from
count-from-top lines scroll height e some =
    let all : lines - scroll ≡ lines = omega arith in
    rw (ne_eqb height 0 (λ (none : height ≡ 0). omega arith), all) refl

-- a block with nothing set adds no rows to the lines
no_rows_added : (a : AmbiguousWidth) (wrap : Wrap) (trim : Bool) (limit : ℕ) (text : List ℕ) → wrap ≡ On trim → 0 < limit → line_count a (block_from nothing_set) [] wrap limit text ≡ lines_at a (On trim) limit text
unfolding line_count vertical_space has_title_at block_from
no_rows_added a wrap trim limit text e some = rw (ne_eqb limit 0 (λ (none : limit ≡ 0). omega arith), e, add-zero) refl

module _ (o : Opening) (styles titles text cells : List ℕ) where
  -- the notice on cells as `preview` draws it, from its scroll row on
  abbrev pub notice_call : Call
  notice_call = call_at o o.text.scroll styles titles text cells

  -- count of pages for the notice's lines, and the first line of each
  abbrev pub pages_shown : ℕ
  pages_shown = pages_from (length (composed_lines notice_call)) o.text.scroll (inner_area notice_call).height

  abbrev pub first_shown : ℕ → ℕ
  first_shown page = first_of o.text.scroll (inner_area notice_call).height page

  module _ (w : WrappedNotice notice_call) where
    inner-answered : inner.answer_of (inner.call_of (block_from o.block) titles (met_of o)) ≡ Ok (inner_area notice_call)
    unfolding inner.answer_of inner.verdict_of inner.causes_of frame_causes verdict_of causes_of screen_causes text_causes inner_area inner_area_of notice_from
    inner-answered =
        let causes = causes_of most_accepted notice_call in
        let whole = accepted-whole notice_call w.accepted in
        rw (no_cause causes Titles whole, no_cause causes Symbol whole) refl

    abbrev count_call : count.Call
    count_call = count.call_of text (ambiguous_named o.text.ambiguous) [] (block_from nothing_set) (wrap_named o.text) (inner_area notice_call).width

    count-accepted : count.verdict_of count_call ≡ Ok tt
    unfolding count.verdict_of count.causes_of width.causes_of frame_causes titles_wrong block_symbols border_symbols block_from shadow_named verdict_of causes_of screen_causes text_causes
    count-accepted =
        let causes = causes_of most_accepted notice_call in
        let whole = accepted-whole notice_call w.accepted in
        rw (no_cause causes TextLength whole, no_cause causes TextHeads whole, le-ltb 4096 (inner_area notice_call).width (omega (arith, few_columns notice_call w))) refl

    lines-counted : count.count_of count_call ≡ length (composed_lines notice_call)
    unfolding lines_at notice_from
    lines-counted =
        no_rows_added (ambiguous_named o.text.ambiguous) (wrap_named o.text) w.trim (inner_area notice_call).width text w.wrapped (inner-some notice_call w).0
        ∙ sym (left-lines notice_call w)

    pub same_measure : fitting_of o titles text
        ≡ Ok (record { width = (inner_area notice_call).width; height = (inner_area notice_call).height; lines = length (composed_lines notice_call) })
    unfolding fitting_of lines_in count.answer_of
    same_measure = rw (inner-answered, count-accepted, lines-counted) refl

    module _ (from-top : o.text.scroll ≡ 0) where
      pub same_count : pages_shown ≡ max 1 (pages_of notice_call)
      unfolding pages_of
      same_count = count-from-top (length (composed_lines notice_call)) o.text.scroll (inner_area notice_call).height from-top (inner-some notice_call w).1

      -- the scroll row of each page shown fits in 16 bits
      first-low : (page : ℕ) → page < pages_shown → scroll_of notice_call page < 65536
      first-low page there =
          dite (dec_lt page (pages_of notice_call))
          (λ h. reached_16 notice_call w page h)
          (λ h.
          let first : page ≡ 0 = omega (arith, same_count, h) in
          let top : 0 * (inner_area notice_call).height ≡ 0 = omega arith in
          rw (first, top) (omega arith))

      same_first : (page : ℕ) → page < pages_shown → first_shown page ≡ scroll_of notice_call page
      same_first page there = omega (arith, first-sum o.text.scroll (inner_area notice_call).height page (omega arith), first-low page there)

      pub same-call : (page : ℕ) → page < pages_shown
          → call_at o (first_shown page) styles titles text (replicate (length cells) blank_cell) ≡ page_call notice_call page
      same-call page there =
          ap (λ (first : ℕ). call_at o first styles titles text (replicate (length cells) blank_cell)) (same_first page there)
          ∙ ap (λ (n : ℕ). call_at o (scroll_of notice_call page) styles titles text (replicate n blank_cell)) (screen_sized notice_call w).all_cells
