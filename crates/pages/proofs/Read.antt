-- Theorem `pages-read`: if the lines fit, reading a row of a page gives its line, and reading all pages gives the lines in order;
-- rows past the last line give nothing.
use Prim.Native.Nat.{ℕ, zero, suc, ◌+◌, ◌-◌, ◌*◌, ◌<◌, ◌≤◌}
use mathlib.Core.Path.{◌≡◌, refl, sym, ap, ◌∙◌}
use mathlib.Core.List.{List, [], ◌∷◌, ◌++◌, map, map-map, map-append, append-nil}
use native.Mathlib.Nat.{add-zero, zero-add, div-add-mod', mod-lt}
use native.Mathlib.Omega.{arith}
use lib.Arith.{digits_div}
use lib.ListN.{length, get_or, get_or-eq_default}
use Rattle.text.specs.Line.{Start, total}
use Rattle.layout.specs.declared.Rect.{Rect}
use Rattle.line_composer.specs.Lines.{Line}
use Rattle.render_line.specs.RenderLine.{drawn_starts, line_on}
use Rattle.render_lines.specs.Rows.{no_composed_line}
use Rattle.draw_notice.specs.Call.{Call}
use Rattle.draw_notice.specs.Pair.{pair_cells}
use Rattle.pages.specs.Pages.{page_call, inner_area, composed_lines, page_count, pages_of, scroll_of, Placement, placement_of, solid_placed, placements_from, placements}
use Rattle.pages.specs.Reading.{Seen, seen, each, look, pages_read, OneCell, WrappedNotice}
use Rattle.pages.proofs.Fit.{Fit}
use Rattle.pages.proofs.Each.{each_same, each_none, each-add, each_shift, each-pages}
use Rattle.pages.proofs.Row.{seen_at, row_reads}
use Rattle.pages.proofs.Screen.{inner-some}
use Rattle.pages.proofs.Cells.{cell_before, line_numbered, before-blank, cell_there}

-- the symbols to be read for the line with an index
unfoldable line_seen : Rect → ℕ → Line → List Seen
line_seen inner number line = map seen (map (placement_of inner number) (solid_placed inner.width (drawn_starts inner.width line)))

-- the line in row j of a page is read on that page and in that row
line-seen : (inner : Rect) (page j : ℕ) (line : Line) → j < inner.height
    → map (seen_at page (inner.y + j) inner.x) (solid_placed inner.width (drawn_starts inner.width line)) ≡ line_seen inner (page * inner.height + j) line
unfolding line_seen placement_of
line-seen inner page j line h =
    let number : ℕ = page * inner.height + j in
    let glyphs : List Start = solid_placed inner.width (drawn_starts inner.width line) in
    let own_row : number - page * inner.height ≡ j = omega arith in
    sym
    (map-map seen (placement_of inner number) glyphs
    ∙ ap (λ (p : ℕ). map (seen_at p (inner.y + (number - p * inner.height)) inner.x) glyphs) (digits_div page h)
    ∙ ap (λ (k : ℕ). map (seen_at page (inner.y + k) inner.x) glyphs) own_row)

-- nothing is read for `no_composed_line`
no_line : (inner : Rect) (number : ℕ) → line_seen inner number no_composed_line ≡ []
unfolding line_seen drawn_starts
no_line inner number = refl

-- the symbols of the lines, line by line
lines-seen : (inner : Rect) (number : ℕ) (lines : List Line)
    → each 0 (length lines) (λ k. line_seen inner (number + k) (get_or lines k no_composed_line)) ≡ map seen (placements_from inner number lines)
unfolding line_seen
lines-seen inner number [] = refl
lines-seen inner number (line ∷ rest) =
    let f : ℕ → List Seen = λ k. line_seen inner (number + k) (get_or (line ∷ rest) k no_composed_line) in
    let others : each 1 (length rest) f ≡ map seen (placements_from inner (suc number) rest)
    = each_shift 1 (length rest) f
    ∙ each_same 0 (length rest) (λ k. f (1 + k)) (λ k. line_seen inner (suc number + k) (get_or rest k no_composed_line))
    (λ k _ _. let one : 1 + k ≡ suc k = omega arith in let next : number + suc k ≡ suc number + k = omega arith in rw (one, next))
    ∙ lines-seen inner (suc number) rest in
    let default : List Placement = map (placement_of inner number) (solid_placed inner.width (drawn_starts inner.width line)) in
    rw (add-zero, others) (sym (map-append seen default (placements_from inner (suc number) rest)))

-- if the lines fit, each of them does, and so does `no_composed_line` past the last
fit_at : (width : ℕ) (lines : List Line) (number : ℕ) → Fit width lines
    → OneCell (get_or lines number no_composed_line).glyphs × (total (get_or lines number no_composed_line).glyphs ≤ width)
fit_at width [] number fit = (tt, omega arith)
fit_at width (line ∷ rest) zero fit = fit.0
fit_at width (line ∷ rest) (suc number) fit = fit_at width rest number fit.1

-- the pages have at least as many rows as there are lines
pages-enough : (n h : ℕ) → 0 < h → n ≤ page_count n h * h
pages-enough n h some = omega (arith, div-add-mod' (n + (h - 1)) h, mod-lt (n + (h - 1)) some)

module _ (i : Call) (w : WrappedNotice i) (fit : Fit (inner_area i).width (composed_lines i)) where
  abbrev inner : Rect
  inner = inner_area i

  -- the symbol read in a cell of a page
  abbrev look_at : ℕ → ℕ → ℕ → List Seen
  look_at page row column = look page row column (get_or (pair_cells (page_call i page)) (row * i.columns + column) 0)

  -- reading a row of a page gives its line
  row-there : (page j : ℕ) → j < inner.height
      → each inner.x inner.width (look_at page (inner.y + j)) ≡ line_seen inner (scroll_of i page + j) (line_numbered i (scroll_of i page + j))
  unfolding line_numbered
  row-there page j h =
      let number : ℕ = scroll_of i page + j in
      let fits = fit_at inner.width (composed_lines i) number fit in
      each_shift inner.x inner.width (look_at page (inner.y + j))
      ∙ each_same 0 inner.width _
      (λ column. look page (inner.y + j) (inner.x + column) (line_on i.styles i.notice.text_style inner.width (line_numbered i number) column (cell_before i j column)))
      (λ column _ q. ap (look page (inner.y + j) (inner.x + column)) (cell_there i w j column h (omega arith) (scroll_of i page)))
      ∙ row_reads i.styles i.notice.text_style inner.width page (inner.y + j) inner.x (line_numbered i number) (cell_before i j)
      fits.0 fits.1 (λ column q. before-blank i w j column h q)
      ∙ line-seen inner page j (line_numbered i number) h

  -- reading a page gives its lines
  page-there : (page : ℕ) → each inner.y inner.height (λ row. each inner.x inner.width (look_at page row))
      ≡ each 0 inner.height (λ j. line_seen inner (scroll_of i page + j) (line_numbered i (scroll_of i page + j)))
  page-there page =
      each_shift inner.y inner.height (λ row. each inner.x inner.width (look_at page row))
      ∙ each_same 0 inner.height _ _ (λ j _ q. row-there page j (omega arith))

  -- past the last line nothing is read
  past-lines : (number : ℕ) → length (composed_lines i) ≤ number → line_seen inner number (line_numbered i number) ≡ []
  unfolding line_numbered
  past-lines number h = ap (line_seen inner number) (get_or-eq_default (composed_lines i) no_composed_line h) ∙ no_line inner number

-- all pages together show the lines' non-whitespace glyphs in their places, and nothing else
pub pages-read : (i : Call) → WrappedNotice i → Fit (inner_area i).width (composed_lines i) → pages_read i ≡ map seen (placements i)
unfolding pages_read pages_of placements line_numbered
pages-read i w fit =
    let n : ℕ = length (composed_lines i) in
    let h : ℕ = (inner_area i).height in
    let pages : ℕ = page_count n h in
    let unused : ℕ = pages * h - n in
    let f : ℕ → List Seen = λ number. line_seen (inner_area i) number (line_numbered i number) in
    let rows : pages * h ≡ n + unused = omega (arith, pages-enough n h (inner-some i w).1) in
    each_same 0 pages _ (λ page. each 0 h (λ j. f (page * h + j))) (λ page _ _. page-there i w fit page)
    ∙ each-pages h pages f
    ∙ ap (λ (m : ℕ). each 0 m f) rows
    ∙ each-add 0 n unused f
    ∙ ap (λ (l : List Seen). each 0 n f ++ l) (each_none (0 + n) unused f (λ number p _. past-lines i w fit number (omega arith)))
    ∙ append-nil (each 0 n f)
    ∙ each_same 0 n f (λ k. line_seen (inner_area i) (0 + k) (get_or (composed_lines i) k no_composed_line)) (λ k _ _. rw zero-add)
    ∙ lines-seen (inner_area i) 0 (composed_lines i)
