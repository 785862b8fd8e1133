-- Demand 3, 'Nothing is lost', quoted from the demands (docs/PROMISES.md): the symbols read over all pages, the notices it covers.
-- Document 02, C-15: "the page reading is to hold for the pair", frame, then text.
use Rattle.std.specs.Prelude.{ℕ, zero, suc, ◌+◌, ◌*◌, ◌<◌, ◌≡◌, Bool, true, false, cond, ◌&&◌, List, [], ◌∷◌, ◌++◌, map, eqb, length, get_or, Ok}
use Rattle.text.specs.Line.{Glyph, glyphs_from}
use Rattle.text.specs.Lists.{some}
use Rattle.cell.specs.Cell.{cell_from, blank_symbol}
use Rattle.layout.specs.Rect.{is_empty, contains}
use Rattle.nothing_lost.specs.Glyphs.{solids}
use Rattle.line_composer.specs.declared.Wrap.TheVariants.{On}
use Rattle.line_composer.specs.Lines.{dropped}
use Rattle.tally.specs.Call as tally
use Rattle.draw_notice.specs.Call.{Call}
use Rattle.draw_notice.specs.Pair.{pair_cells, pair_counts, BothAccepted}
use Rattle.pages.specs.Pages.{Placement, inner_area, pages_of, scroll_of, page_call, placements}

-- a symbol read on a page, at a row and column of the screen
pub record Seen : Type 0 where
  pub page : ℕ
  pub row : ℕ
  pub column : ℕ
  pub symbol : ℕ

-- the symbol to be read for a placed glyph
abbrev pub seen : Placement → Seen
seen p = record { page = p.page; row = p.row; column = p.column; symbol = p.glyph.symbol }

-- concatenation of f a, f (a + 1), … f (a + n - 1)
abbrev pub each : {A : Type 0} → ℕ → ℕ → (ℕ → List A) → List A
each a zero f = []
each a (suc n) f = f a ++ each (suc a) n f

-- a cell's symbol, or nothing if it is the blank one
unfoldable pub look : ℕ → ℕ → ℕ → ℕ → List Seen
look page row column cell =
    cond (eqb (cell_from cell).symbol blank_symbol) [] (record { page = page; row = row; column = column; symbol = (cell_from cell).symbol } ∷ [])

-- "the symbols in the inner area other than the blank one, read over all these pages in order, row by row, left to right"
unfoldable pub pages_read : Call → List Seen
pages_read i =
    let inner = inner_area i in
    each 0 (pages_of i) (λ page.
    each inner.y inner.height (λ row.
    each inner.x inner.width (λ column.
    look page row column (get_or (pair_cells (page_call i page)) (row * i.columns + column) 0))))

-- the sum f a + f (a + 1) + … + f (a + n - 1)
abbrev pub summed : ℕ → ℕ → (ℕ → ℕ) → ℕ
summed a zero f = 0
summed a (suc n) f = f a + summed (suc a) n f

-- "glyphs all one cell wide, the blank symbol on the whitespace ones and no others"; by the width read, so an ambiguous glyph is if
-- it is read narrow
abbrev pub OneCell : List Glyph → Type 0
OneCell [] = Unit {0}
OneCell (g ∷ gs) = ((g.width ≡ 1) × (g.whitespace ≡ eqb g.symbol blank_symbol)) × OneCell gs

-- "any accepted notice that is drawn wrapped, trimmed or not", with "an inner area of one cell or more"
pub record WrappedNotice (i : Call) : Type 0 where
  pub accepted : BothAccepted i
  pub trim : Bool
  pub wrapped : i.notice.wrap ≡ On trim
  pub some_cell : is_empty (inner_area i) ≡ false

-- Each page's scroll row fits in 16 bits, and "None is refused, as no cause looks at the scroll row".
abbrev pub Reached : Call → Type 0
Reached i = (page : ℕ) → page < pages_of i → (scroll_of i page < 65536) × BothAccepted (page_call i page)

-- whether a glyph is placed on a page, at a row and column of the screen
abbrev pub is_placed_at : ℕ → ℕ → ℕ → Placement → Bool
is_placed_at page row column p = eqb p.page page && eqb p.row row && eqb p.column column

-- the symbol of a cell on a page, at a row and column of the screen
abbrev pub symbol_at : Call → ℕ → ℕ → ℕ → ℕ
symbol_at i page row column = (cell_from (get_or (pair_cells (page_call i page)) (row * i.columns + column) 0)).symbol

-- Document 01: "Inner cells without a glyph hold the blank symbol." `placements` has the non-whitespace glyphs, so the cells of
-- whitespace glyphs hold it too.
abbrev pub BlankElsewhere : Call → Type 0
BlankElsewhere i =
    (page row column : ℕ) → page < pages_of i → contains (inner_area i) column row ≡ true
    → some (is_placed_at page row column) (placements i) ≡ false
    → symbol_at i page row column ≡ blank_symbol

-- Demand 3, the pages: together they show each non-whitespace glyph of the text once, in text order, in its place, and nothing
-- else.
pub record NothingLost (i : Call) : Type 0 where
  pub reached : Reached i
  -- "the symbols … are exactly those of its text's non-whitespace glyphs"
  pub symbols : map (λ (s : Seen). s.symbol) (pages_read i) ≡ map (λ (g : Glyph). g.symbol) (solids (glyphs_from i.notice.ambiguous 0 i.text))
  -- "on the page and in the cell document 01 gives it, and nothing else is"
  pub places : pages_read i ≡ map seen (placements i)
  -- "Each is there once, in text order"
  pub glyphs : map (λ (p : Placement). p.glyph) (placements i) ≡ solids (glyphs_from i.notice.ambiguous 0 i.text)
  pub blank_elsewhere : BlankElsewhere i

-- Demand 3, the counts of a tally call, for glyphs of any width: "placed + clipped + zero-width + over-wide + dropped = glyphs",
-- "and every dropped glyph is whitespace".
pub record AllCounted (call : tally.Call) : Type 0 where
  pub all_glyphs :
      let c = tally.counts_of call in
      c.placed + c.clipped + c.zero_width + c.over_wide + c.dropped ≡ length (glyphs_from call.ambiguous 0 call.text)
  pub all_whitespace : solids (dropped (tally.rule_in call) call.text) ≡ []

-- the tally of a notice's text at the inner width
abbrev pub pages_tally : Call → Bool → tally.Call
pages_tally i trim = tally.call_of i.text i.notice.ambiguous (inner_area i).width trim

-- More than demand 3 asks; it relates the pages to the counts, for glyphs of any width: the tally of the text at the inner width
-- is accepted, and the counts of the pages' answers add up to it.
pub record SameCounts (i : Call) (trim : Bool) : Type 0 where
  pub reached : Reached i
  pub answered : tally.verdict_of (pages_tally i trim) ≡ Ok tt
  pub rows : summed 0 (pages_of i) (λ page. (pair_counts (page_call i page)).rows) ≡ (tally.counts_of (pages_tally i trim)).lines
  pub placed : summed 0 (pages_of i) (λ page. (pair_counts (page_call i page)).placed) ≡ (tally.counts_of (pages_tally i trim)).placed
  pub clipped : summed 0 (pages_of i) (λ page. (pair_counts (page_call i page)).clipped) ≡ (tally.counts_of (pages_tally i trim)).clipped

-- Demand 3 as one claim: the pages of every such notice whose glyphs are one cell wide; the tally of every accepted text at every
-- limit above 0, for glyphs of any width; and the pages' counts, which are the tally's.
pub record DemandThree : Type 0 where
  pub nothing_lost : (i : Call) → WrappedNotice i → OneCell (glyphs_from i.notice.ambiguous 0 i.text) → NothingLost i
  pub all_counted : (call : tally.Call) → tally.verdict_of call ≡ Ok tt → 0 < call.limit → AllCounted call
  pub same_counts : (i : Call) (w : WrappedNotice i) → SameCounts i w.trim
