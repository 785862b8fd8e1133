-- Theorem `frame_uncovered`: on a page with widths as symbols, each inner cell's symbol, read as a width, ends in the notice's inner area.
-- It is 1 where no glyph is drawn. A placed glyph's is its own width, and ends there; a halved one's is the blank symbol, read as 0.
use Prim.Native.Nat.{ℕ, zero, suc, ◌+◌, ◌-◌, ◌*◌, ◌%◌, ◌^◌, ◌<◌, ◌≤◌}
use mathlib.Core.Path.{◌≡◌, refl, sym, ap, ◌∙◌, subst}
use mathlib.Core.Logic.{dite}
use mathlib.Core.Bool.{Bool, true, false}
use mathlib.Core.List.{List, [], ◌∷◌, map}
use native.Mathlib.Decide.{dec_lt}
use native.Mathlib.Omega.{arith}
use borrow.Author.Tests.{eqb-true, not-false}
use lib.Dec.{eqb}
use lib.ListN.{get_or, take, drop, replicate, length-replicate, get_or-replicate, get_or-eq_default}
use lib.Seq.{slice}
use Rattle.text.specs.declared.AmbiguousWidth.{AmbiguousWidth}
use Rattle.text.specs.Record.{is_head, symbol_of, width_code_of, width_of, whitespace_of, style_of, glyph_record, zeros_of}
use Rattle.text.specs.declared.TitlePosition.TheVariants.{Top, Bottom}
use Rattle.text.specs.Line.{Glyph, Start, TextLine, lines_from, glyph_from, numbered, starts_from, not_opening}
use Rattle.text.specs.Lists.{some}
use Rattle.text.proofs.Bools.{neither, cases, cond_cases}
use Rattle.text.proofs.Fields.{glyph-symbol, glyph-width, glyph-is_no_head}
use Rattle.text.proofs.Reading.{width_plain, width-most}
use Rattle.cell.specs.Cell.{cell_from, blank_symbol, blank_cell, with_symbol, styled}
use Rattle.cell.proofs.Fields.{styled-symbol, symbol-set}
use Rattle.layout.specs.declared.Rect.{Rect}
use Rattle.layout.specs.Rect.{is_empty, contains}
use Rattle.buffer.specs.Drawing.{Drawing, over, style_at}
use Rattle.buffer.proofs.Drawn.{drawn-at}
use Rattle.refuse.specs.declared.Refusal.{Refusal}
use Rattle.refuse.specs.declared.Refusal.TheVariants.{TextHeads}
use Rattle.std.specs.Prelude.{Ok, Err}
use Rattle.refuse.specs.Refusal.{Verdict}
use Rattle.refuse.specs.Causes.{most_accepted, screen_causes, text_causes, text_head_wrong, text_heads_wrong}
use Rattle.refuse.proofs.Calls.{no_cause}
use Rattle.wrapping.specs.declared.Rule.{Rule}
use Rattle.wrapping.specs.Wrapping.{is_over_wide, not_over_wide}
use Rattle.place.specs.declared.Place.{Place}
use Rattle.place.proofs.Places.{by_place}
use Rattle.line_composer.specs.declared.Wrap.{Wrap}
use Rattle.line_composer.specs.declared.Wrap.TheVariants.{Off, On}
use Rattle.line_composer.specs.Wrap.{method_of, rule_at}
use Rattle.line_composer.specs.Lines.{Line, wrapped_line_of, line_at}
use Rattle.line_composer.proofs.ReadBack.{ReadBack, read_back}
use Rattle.titles.specs.Titles.{titles_from}
use Rattle.render_block.specs.Frame.{frame}
use Rattle.render_block.proofs.KeepsSymbols.{inside_between, order_keeps, style_keeps}
use Rattle.render_glyphs.specs.RenderGlyphs.{glyph_cell, first_cell, glyph_on, glyphs_on}
use Rattle.render_line.specs.RenderLine.{drawn_starts, line_on}
use Rattle.render_lines.specs.Rows.{no_composed_line}
use Rattle.block.specs.Inner.{title_is_at, has_title_at, inner_of}
use Rattle.paragraph.specs.Notice.{notice_lines, inner_area_of}
use Rattle.paragraph.specs.Apart.{frame_of}
use Rattle.draw_frame.specs.Call as frame
use Rattle.draw_frame.proofs.Answers.{screen_cells as frame-cells}
use Rattle.draw_text.specs.Call as draw-text
use Rattle.draw_notice.specs.Call.{Call, causes_of, verdict_of, screen_in}
use Rattle.draw_notice.specs.Pair.{frame_call, text_call}
use Rattle.draw_notice.proofs.Pair.{accepted-whole, nothing-drawn, frame_alone}
use Rattle.pages.specs.Pages.{inner_area, composed_lines}
use Rattle.pages.specs.Inside.{DrawnNotice}
use Rattle.pages.proofs.Screen.{met, some-met, inner-there, some_cell, right_there, bottom-there, inner_has}
use Rattle.pages.proofs.Cells.{under_lines, line_numbered, frame_keeps, stored_on, under_keeps, cell_stored, cell_drawn}
use Rattle.flat.specs.FlatExtra.{ambiguous_named, block_from, notice_from}
use Rattle.preview_file.specs.declared.Opening.{Opening}
use Rattle.preview_sheet.specs.WidthsExtra.{widened}
use Rattle.preview_sheet.specs.SheetExtra.{call_at}
use Rattle.preview_sheet.specs.CoveredExtra.{wide_page, width_at, FrameUncovered}

-- ---- the records of a text with widths as symbols

-- a record with its width as symbol, unless the width is 0
abbrev ShowsWidth : AmbiguousWidth → ℕ → Type 0
ShowsWidth a r = 0 < width_of a r → symbol_of r ≡ width_of a r

abbrev AllShow : AmbiguousWidth → List ℕ → Type 0
AllShow a [] = Unit {0}
AllShow a (r ∷ rs) = ShowsWidth a r × AllShow a rs

module _ (a : AmbiguousWidth) where
  -- a slice of a text may have heads; the zeros of a head are read as width 0
  head-shows : (r : ℕ) → zeros_of r ≡ 0 → ShowsWidth a r
  head-shows r zeros wide =
      let none : width_code_of r ≡ 0 = omega arith in
      absurd (omega (arith, width_plain a (width_code_of r) r refl (λ (e : width_code_of r ≡ 7). omega arith)))

  glyph-shows : (r : ℕ) → ShowsWidth a (glyph_record (width_of a r) (width_of a r) (whitespace_of r) (style_of r))
  glyph-shows r _ =
      let w : ℕ = width_of a r in
      let few : w ≤ 6 = width-most a r in
      glyph-symbol w w (whitespace_of r) (style_of r) (omega arith) (omega arith) (omega arith)
      ∙ width_plain a w _ (sym (glyph-width w w (whitespace_of r) (style_of r) (omega arith) (omega arith) (omega arith))) (λ (e : w ≡ 7). omega arith)

  record_shows : (r : ℕ) → text_head_wrong (widened a r) ≡ false → ShowsWidth a (widened a r)
  unfolding widened
  record_shows r =
      cond_cases (λ (v : ℕ). text_head_wrong v ≡ false → ShowsWidth a v) (is_head r) r _
      (λ head right. head-shows r (eqb-true (zeros_of r) 0 (not-false _ (neither _ _ (rw head at right)).0)))
      (λ _ _. glyph-shows r)

  text-shows : (text : List ℕ) → some text_head_wrong (map (widened a) text) ≡ false → AllShow a (map (widened a) text)
  text-shows [] e = tt
  text-shows (r ∷ rs) e =
      let right = neither (text_head_wrong (widened a r)) (some text_head_wrong (map (widened a) rs)) e in
      (record_shows r right.0, text-shows rs right.1)

  take-shows : (n : ℕ) (rs : List ℕ) → AllShow a rs → AllShow a (take n rs)
  take-shows zero rs all = tt
  take-shows (suc n) [] all = tt
  take-shows (suc n) (r ∷ rs) all = (all.0, take-shows n rs all.1)

  drop-shows : (n : ℕ) (rs : List ℕ) → AllShow a rs → AllShow a (drop n rs)
  drop-shows zero rs all = all
  drop-shows (suc n) [] all = tt
  drop-shows (suc n) (r ∷ rs) all = drop-shows n rs all.1

-- ---- a cell in a column of an area

module _ (styles : List ℕ) (style width column : ℕ) where
  -- the cell's symbol, as a width, ends within the area
  abbrev Ends : ℕ → Type 0
  Ends cell = column + (cell_from cell).symbol % 2 ^ 3 ≤ width

  drawn-ends : (symbol number cell : ℕ) → column + symbol % 2 ^ 3 ≤ width → Ends (glyph_cell styles style symbol number cell)
  unfolding glyph_cell
  drawn-ends symbol number cell = subst (λ (s : ℕ). column + s % 2 ^ 3 ≤ width) (sym (styled-symbol _ _ ∙ styled-symbol _ _ ∙ symbol-set symbol cell))

  glyph-ends : (s : Start) (cell : ℕ) → (0 < s.glyph.width → s.glyph.symbol ≡ s.glyph.width) → Ends cell → Ends (glyph_on styles style width s column cell)
  unfolding glyph_on first_cell
  glyph-ends s cell shows ends =
      cond_cases Ends (eqb column s.start) _ _
      (λ e.
      let here = eqb-true column s.start e in
      by_place width s.start s.glyph.width
      (λ (p : Place). Ends (first_cell styles style p s.glyph.symbol s.glyph.style cell))
      (λ _. ends)
      (λ _ _. ends)
      (λ _ inside _. drawn-ends blank_symbol s.glyph.style cell (omega arith))
      (λ wide _ fits. drawn-ends s.glyph.symbol s.glyph.style cell (omega (arith, shows (omega (arith, wide))))))
      (λ _. ends)

  module _ (u : Rule) where
    glyphs-end : (number start : ℕ) (rs : List ℕ) (cell : ℕ) → AllShow u.ambiguous rs → Ends cell
        → Ends (glyphs_on styles style width (starts_from start (not_over_wide u (numbered u.ambiguous number rs))) column cell)
    glyphs-end number start [] cell all ends = ends
    glyphs-end number start (r ∷ rs) cell all ends =
        let g : Glyph = glyph_from u.ambiguous number r in
        cond_cases (λ (gs : List Glyph). Ends (glyphs_on styles style width (starts_from start gs) column cell)) (is_over_wide u g) _ _
        (λ _. glyphs-end (suc number) start rs cell all.1 ends)
        (λ _. glyphs-end (suc number) (start + g.width) rs _ all.1 (glyph-ends (record { start = start; glyph = g }) cell all.0 ends))

    module _ (text : List ℕ) (all : AllShow u.ambiguous text) (cell : ℕ) (ends : Ends cell) where
      -- a line read from the text
      line-ends : (line : Line) → line_at u text (wrapped_line_of line) ≡ line → Ends (line_on styles style width line column cell)
      unfolding line_on drawn_starts line_at
      line-ends line back =
          let fields = wrapped_line_of line in
          subst (λ (l : Line). Ends (line_on styles style width l column cell)) back
          (glyphs-end fields.first _ (slice fields.first fields.end text) cell
          (drop-shows u.ambiguous fields.first (take fields.end text) (take-shows u.ambiguous fields.end text all)) ends)

      lines_end : (ls : List Line) (number : ℕ) → ReadBack u text ls → Ends (line_on styles style width (get_or ls number no_composed_line) column cell)
      unfolding line_on drawn_starts
      lines_end [] number back = ends
      lines_end (line ∷ ls) zero back = line-ends line back.0
      lines_end (line ∷ ls) (suc number) back = lines_end ls number back.1

-- ---- the page

rule_reads : (a : AmbiguousWidth) (wrap : Wrap) (limit : ℕ) → (rule_at a wrap limit).ambiguous ≡ a
rule_reads a (Off column) limit = refl
rule_reads a (On trim) limit = refl

module _ (o : Opening) (first : ℕ) (styles titles text : List ℕ) (d : DrawnNotice (wide_page o first styles titles text)) where
  abbrev page : Call
  page = wide_page o first styles titles text

  abbrev rule : Rule
  rule = rule_at page.notice.ambiguous page.notice.wrap (inner_area page).width

  page-shows : AllShow rule.ambiguous page.text
  unfolding verdict_of causes_of screen_causes text_causes text_heads_wrong notice_from
  page-shows =
      let right = neither (not_opening page.text) (some text_head_wrong page.text) (no_cause (causes_of most_accepted page) TextHeads (accepted-whole page d.accepted)) in
      rw (rule_reads page.notice.ambiguous page.notice.wrap (inner_area page).width) (text-shows (ambiguous_named o.text.ambiguous) text right.1)

  module _ (row column : ℕ) (within : contains (inner_area page) column row ≡ true) where
    -- before the lines are drawn the cell has the symbol 1
    one-under : (cell_from (under_lines page column row (get_or page.cells (row * page.columns + column) 0))).symbol ≡ 1
    one-under =
        let count : ℕ = o.columns * o.rows in
        let stored = cell_stored page d column row within in
        under_keeps page d column row within (get_or page.cells (row * page.columns + column) 0)
        ∙ ap (λ (cell : ℕ). (cell_from cell).symbol)
        (get_or-replicate count (row * page.columns + column) (with_symbol 1 blank_cell) 0 (omega (arith, stored, length-replicate count (with_symbol 1 blank_cell))))
        ∙ symbol-set 1 blank_cell

    cell_ends : column - (inner_area page).x + width_at page row column ≤ (inner_area page).width
    unfolding line_numbered composed_lines notice_lines
    cell_ends =
        let b = inside_between (inner_area page) column row within in
        rw (cell_drawn page d column row within)
        (lines_end styles page.notice.text_style (inner_area page).width (column - (inner_area page).x) rule page.text page-shows _
        (omega (arith, one-under, b.left, b.right, right_there page d))
        (composed_lines page) (page.notice.scroll + (row - (inner_area page).y))
        (read_back rule (method_of page.notice.wrap) page.notice.alignment page.text))

    -- so do the cells that its symbol takes
    taken_in_area : (k : ℕ) → k < width_at page row column → contains (inner_area page) (column + k) row ≡ true
    taken_in_area k covered =
        let b = inside_between (inner_area page) column row within in
        inner_has page d (column + k) row (omega (arith, b.left)) (omega (arith, cell_ends, b.left)) b.top (omega (arith, b.bottom, bottom-there page d))

-- ---- a page that is refused

by_verdict : (v : Verdict) (P : Type 0) → (v ≡ Ok tt → P) → ((why : Refusal) → v ≡ Err why → P) → P
by_verdict (Ok _) P accepted refused = accepted refl
by_verdict (Err why) P accepted refused = refused why refl

-- if the text is refused and the frame isn't, the frame keeps the symbols of the inner area
module _ (i : Call) (framed : frame.verdict_of (frame_call i) ≡ Ok tt) (some : is_empty (inner_area i) ≡ false)
    (column row : ℕ) (within : contains (inner_area i) column row ≡ true) where
  abbrev under : Drawing
  under = over (met i) (styled (style_at i.styles i.notice.style))

  abbrev around : Drawing
  around = frame i.styles (screen_in i) (titles_from i.notice.ambiguous i.titles) i.notice.block (met i)

  drawn_keeps : (cell : ℕ) → (cell_from (frame.drawing_of (frame_call i) column row cell)).symbol ≡ (cell_from cell).symbol
  unfolding frame.drawing_of frame_of
  drawn_keeps cell = rw (some-met i some) (order_keeps (under ∷ around ∷ []) column row (style_keeps (met i) _ column row, (frame_keeps i column row within some, tt)) cell)

  framed-symbol : (cell_from (get_or (frame.cells_after (frame_call i)) (row * i.columns + column) 0)).symbol ≡ (cell_from (get_or i.cells (row * i.columns + column) 0)).symbol
  unfolding frame.cells_after
  framed-symbol =
      let there = stored_on i column row within (inner-there i some (frame-cells (frame_call i) framed)) in
      rw framed
      (ap (λ (cell : ℕ). (cell_from cell).symbol) (drawn-at i.columns (frame.drawing_of (frame_call i)) i.cells column row there.0 there.1)
      ∙ drawn_keeps (get_or i.cells (row * i.columns + column) 0))

-- the cells that nothing is drawn on are as they were, each one cell wide
unchanged-width : (count number : ℕ) → (cell_from (get_or (replicate count (with_symbol 1 blank_cell)) number 0)).symbol % 2 ^ 3 ≤ 1
unchanged-width count number =
    dite (dec_lt number count)
    (λ there. omega (arith, ap (λ (cell : ℕ). (cell_from cell).symbol) (get_or-replicate count number (with_symbol 1 blank_cell) 0 there), symbol-set 1 blank_cell))
    (λ past.
    let none : get_or (replicate count (with_symbol 1 blank_cell)) number 0 ≡ 0
    = get_or-eq_default (replicate count (with_symbol 1 blank_cell)) 0 (omega (arith, past, length-replicate count (with_symbol 1 blank_cell))) in
    rw none (omega arith))

module _ (o : Opening) (first : ℕ) (styles titles text : List ℕ) where
  abbrev wide : Call
  wide = wide_page o first styles titles text

  page_uncovered : FrameUncovered (inner_area wide) wide
  page_uncovered =
      record {
        covered_inside = λ row column k within covered.
            let b = inside_between (inner_area wide) column row within in
            let some = some_cell (inner_area wide) (omega (arith, b.left, b.right)) (omega (arith, b.top, b.bottom)) in
            let unchanged = unchanged-width (o.columns * o.rows) (row * o.columns + column) in
            by_verdict (frame.verdict_of (frame_call wide)) (contains (inner_area wide) (column + k) row ≡ true)
            (λ framed.
            by_verdict (draw-text.verdict_of (text_call wide)) (contains (inner_area wide) (column + k) row ≡ true)
            (λ laid.
            let drawn : DrawnNotice wide = record { accepted = record { frame_accepted = framed; text_accepted = laid }; some_cell = some } in
            taken_in_area o first styles titles text drawn row column within k covered)
            (λ why refused.
            let kept = framed-symbol wide framed some column row within in
            let few : width_at wide row column ≤ 1 = rw (frame_alone wide why refused, kept) unchanged in
            let here : column + k ≡ column = omega (arith, few, covered) in
            rw here within))
            (λ why refused.
            let few : width_at wide row column ≤ 1 = rw (nothing-drawn wide why refused) unchanged in
            let here : column + k ≡ column = omega (arith, few, covered) in
            rw here within);
      }

-- ---- the notice's own inner area

-- widths as symbols leave the heads of titles as they are
heads-kept : (a : AmbiguousWidth) (test : ℕ → Bool) (number : ℕ) (rs : List ℕ)
    → some (λ (title : TextLine). test title.head) (lines_from number (map (widened a) rs)) ≡ some (λ (title : TextLine). test title.head) (lines_from number rs)
unfolding widened
heads-kept a test number [] = refl
heads-kept a test number (r ∷ rs) =
    let rest = heads-kept a test (suc number) rs in
    let few = width-most a r in
    let glyph = glyph-is_no_head (width_of a r) (width_of a r) (whitespace_of r) (style_of r) (omega arith) (omega arith) (omega arith) in
    cases
    (λ _. some (λ (title : TextLine). test title.head) (lines_from number (map (widened a) (r ∷ rs))) ≡ some (λ (title : TextLine). test title.head) (lines_from number (r ∷ rs)))
    (is_head r) (λ e. simp (e, rest)) (λ e. simp (e, glyph, rest))

module _ (o : Opening) (first : ℕ) (styles titles text cells : List ℕ) where
  same-inner : inner_area (wide_page o first styles titles text) ≡ inner_area (call_at o first styles titles text cells)
  unfolding inner_area inner_area_of inner_of has_title_at notice_from block_from
  same-inner =
      let a = ambiguous_named o.text.ambiguous in
      let b = block_from o.block in
      rw (heads-kept a (title_is_at b Top) 0 titles, heads-kept a (title_is_at b Bottom) 0 titles)

  pub frame_uncovered : FrameUncovered (inner_area (call_at o first styles titles text cells)) (wide_page o first styles titles text)
  frame_uncovered = subst (λ (inner : Rect). FrameUncovered inner (wide_page o first styles titles text)) same-inner (page_uncovered o first styles titles text)
