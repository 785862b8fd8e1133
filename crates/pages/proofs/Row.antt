-- Reading one row: a line of one-cell glyphs drawn on blank symbols reads as the line's non-whitespace glyphs.
use Prim.Native.Nat.{ℕ, zero, suc, ◌+◌, ◌-◌, ◌<◌, ◌≤◌}
use mathlib.Core.Path.{◌≡◌, refl, sym, ap, ◌∙◌}
use mathlib.Core.Bool.{Bool, true, false, cond, not, ◌&&◌}
use mathlib.Core.List.{List, [], ◌∷◌, ◌++◌, map}
use native.Mathlib.Nat.{zero-add}
use native.Mathlib.Omega.{arith}
use borrow.Author.Tests.{eq-eqb, ne_eqb}
use lib.Dec.{eqb}
use Rattle.text.specs.Line.{Glyph, Start, total, starts_from}
use Rattle.cell.specs.Cell.{cell_from, blank_symbol}
use Rattle.cell.proofs.Fields.{styled-symbol, symbol-set}
use Rattle.line_composer.specs.Lines.{Line}
use Rattle.place.specs.declared.Place.TheVariants.{Placed}
use Rattle.line_composer.specs.Places.{place_in, is_placed}
use Rattle.render_glyphs.specs.RenderGlyphs.{glyph_cell, first_cell, glyph_on, glyphs_on}
use Rattle.render_line.specs.RenderLine.{drawn_starts, line_on}
use Rattle.render_line.proofs.Moving.{glyphs-before}
use Rattle.pages.specs.Pages.{solid_placed}
use Rattle.pages.specs.Reading.{Seen, each, look, OneCell}
use Rattle.pages.proofs.Each.{each_none, each-add}
use Rattle.pages.proofs.Offset.{offset-fits}
use Rattle.pages.proofs.Placed.{placed-there, is-placed}

-- the symbol read for a glyph on a page and row, its start counted from column x
abbrev pub seen_at : ℕ → ℕ → ℕ → Start → Seen
seen_at page row x s = record { page = page; row = row; column = x + s.start; symbol = s.glyph.symbol }

-- a cell with the blank symbol reads as nothing
look-blank : (page row column cell : ℕ) → (cell_from cell).symbol ≡ blank_symbol → look page row column cell ≡ []
unfolding look
look-blank page row column cell e = simp (eq-eqb (cell_from cell).symbol blank_symbol e)

module _ (styles : List ℕ) (style width page row x : ℕ) where
  -- a cell with a placed glyph's symbol reads as that glyph, unless the glyph is whitespace
  look-glyph : (s : Start) (rest : List Start) (cell : ℕ) → (cell_from cell).symbol ≡ s.glyph.symbol → is_placed width s ≡ true
      → s.glyph.whitespace ≡ eqb s.glyph.symbol blank_symbol
      → look page row (x + s.start) cell ++ map (seen_at page row x) rest
      ≡ map (seen_at page row x) (cond (is_placed width s && not s.glyph.whitespace) (s ∷ rest) rest)
  unfolding look
  look-glyph s rest cell e p w =
      let solid : (is_placed width s && not s.glyph.whitespace) ≡ not (eqb s.glyph.symbol blank_symbol)
      = ap (λ (b : Bool). b && not s.glyph.whitespace) p ∙ ap not w in
      rw (e, solid) (go (eqb s.glyph.symbol blank_symbol))
    where
      go : (blank : Bool) → cond blank [] (seen_at page row x s ∷ []) ++ map (seen_at page row x) rest
          ≡ map (seen_at page row x) (cond (not blank) (s ∷ rest) rest)
      go true = refl
      go false = refl

  -- a placed glyph's first cell gets its symbol
  glyph-symbol : (s : Start) (cell : ℕ) → place_in width s ≡ Placed → (cell_from (glyph_on styles style width s s.start cell)).symbol ≡ s.glyph.symbol
  unfolding glyph_on first_cell glyph_cell
  glyph-symbol s cell p = simp (p, eq-eqb s.start s.start refl) (styled-symbol _ _ ∙ styled-symbol _ _ ∙ symbol-set s.glyph.symbol cell)

  -- the cells right of it are unchanged
  glyph-after : (s : Start) (column cell : ℕ) → s.start < column → glyph_on styles style width s column cell ≡ cell
  unfolding glyph_on
  glyph-after s column cell h = simp (ne_eqb column s.start (λ e. omega arith))

  -- the symbol read in a column after the glyphs are drawn
  abbrev look_on : ℕ → List Glyph → (ℕ → ℕ) → ℕ → List Seen
  look_on start gs cell column = look page row (x + column) (glyphs_on styles style width (starts_from start gs) column (cell column))

  -- the columns from the first glyph's on
  from_start : (gs : List Glyph) (start n : ℕ) (cell : ℕ → ℕ) → OneCell gs → total gs ≤ n → start + n ≤ width
      → ((column : ℕ) → start ≤ column → column < start + n → (cell_from (cell column)).symbol ≡ blank_symbol)
      → each start n (look_on start gs cell) ≡ map (seen_at page row x) (solid_placed width (starts_from start gs))
  from_start [] start n cell one fits edge blank =
      each_none start n _ (λ column p q. look-blank page row (x + column) (cell column) (blank column p q))
  from_start (g ∷ gs) start zero cell one fits edge blank = absurd (omega (arith, one.0.0))
  from_start (g ∷ gs) start (suc n) cell one fits edge blank =
      let s : Start = record { start = start; glyph = g } in
      let wide : g.width ≡ 1 = one.0.0 in
      let next : start + g.width ≡ suc start = omega arith in
      let there : place_in width s ≡ Placed = placed-there width s (omega arith) (omega arith) in
      let put : is_placed width s ≡ true = is-placed width s (omega arith) (omega arith) in
      let after : ℕ → ℕ = λ column. glyph_on styles style width s column (cell column) in
      let rest : List Start = solid_placed width (starts_from (start + g.width) gs) in
      let others : each (suc start) n (look_on (start + g.width) gs after) ≡ map (seen_at page row x) rest
      = ap (λ (a : ℕ). each a n (look_on (start + g.width) gs after)) (sym next)
      ∙ from_start gs (start + g.width) n after one.1 (omega arith) (omega arith)
      (λ column p q. ap (λ (c : ℕ). (cell_from c).symbol) (glyph-after s column (cell column) (omega arith)) ∙ blank column (omega arith) (omega arith)) in
      let first : (cell_from (glyphs_on styles style width (starts_from (start + g.width) gs) start (after start))).symbol ≡ g.symbol
      = ap (λ (c : ℕ). (cell_from c).symbol) (glyphs-before styles style width (start + g.width) gs start (after start) (omega arith))
      ∙ glyph-symbol s (cell start) there in
      ap (λ (l : List Seen). look_on (start + g.width) gs after start ++ l) others
      ∙ look-glyph s rest (glyphs_on styles style width (starts_from (start + g.width) gs) start (after start)) first put one.0.1

  -- all columns of the row
  whole_row : (gs : List Glyph) (start : ℕ) (cell : ℕ → ℕ) → OneCell gs → start + total gs ≤ width
      → ((column : ℕ) → column < width → (cell_from (cell column)).symbol ≡ blank_symbol)
      → each 0 width (look_on start gs cell) ≡ map (seen_at page row x) (solid_placed width (starts_from start gs))
  whole_row gs start cell one fits blank =
      let f : ℕ → List Seen = look_on start gs cell in
      let split : width ≡ start + (width - start) = omega arith in
      let before : each 0 start f ≡ []
      = each_none 0 start f
      (λ column p q. look-blank page row (x + column) _
      (ap (λ (c : ℕ). (cell_from c).symbol) (glyphs-before styles style width start gs column (cell column) (omega arith)) ∙ blank column (omega arith))) in
      ap (λ (n : ℕ). each 0 n f) split
      ∙ each-add 0 start (width - start) f
      ∙ ap (λ (l : List Seen). l ++ each (0 + start) (width - start) f) before
      ∙ rw zero-add (from_start gs start (width - start) cell one (omega arith) (omega arith) (λ column p q. blank column (omega arith)))

-- reading the row of a line that fits gives its non-whitespace glyphs
pub row_reads : (styles : List ℕ) (style width page row x : ℕ) (line : Line) (cell : ℕ → ℕ) → OneCell line.glyphs → total line.glyphs ≤ width
    → ((column : ℕ) → column < width → (cell_from (cell column)).symbol ≡ blank_symbol)
    → each 0 width (λ column. look page row (x + column) (line_on styles style width line column (cell column)))
    ≡ map (seen_at page row x) (solid_placed width (drawn_starts width line))
unfolding line_on drawn_starts
row_reads styles style width page row x line cell one fits blank =
    whole_row styles style width page row x line.glyphs _ cell one (offset-fits line.alignment width (total line.glyphs) fits) blank
