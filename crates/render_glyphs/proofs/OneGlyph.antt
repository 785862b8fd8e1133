-- One glyph written on a row by its place, and counted.
use Prim.Native.Nat.{ℕ, ◌+◌, ◌≤◌, ◌<◌}
use mathlib.Core.Path.{◌≡◌, refl, sym, ap, ◌∙◌}
use mathlib.Core.Bool.{Bool, true, false, cond, true≢false}
use mathlib.Core.List.{List}
use native.Mathlib.Omega.{arith}
use lib.Dec.{eqb}
use lib.ListN.{get_or, set}
use Rattle.text.specs.declared.AmbiguousWidth.{AmbiguousWidth}
use Rattle.text.specs.Record.{symbol_of, style_of}
use Rattle.text.specs.Line.{Start, glyph_from}
use Rattle.text.proofs.Bools.{cond_cases}
use Rattle.cell.specs.Cell.{blank_symbol, with_symbol, styled}
use Rattle.buffer.specs.Drawing.{changed, style_at}
use Rattle.buffer.proofs.Changed.{changed-same, changed-none, changed-one}
use Rattle.place.specs.declared.Place.{Place}
use Rattle.place.specs.declared.Place.TheVariants.{ZeroWidth, Placed, Halved, Outside}
use Rattle.place.specs.Place.{place_of, counts_as_placed, counts_as_clipped}
use Rattle.place.proofs.Places.{by_place}
use Rattle.render_glyphs.specs.declared.GlyphCounts.{GlyphCounts}
use Rattle.render_glyphs.specs.RenderGlyphs.{glyph_cell, first_cell}
use Rattle.render_glyphs.specs.WritingExtra.{is_written, symbol_written, cell_with, written_at, with_place}

-- the glyph of a record, with its record number and start column
abbrev pub start_of : AmbiguousWidth → ℕ → ℕ → ℕ → Start
start_of a number column word = record { start = column; glyph = glyph_from a number word }

-- a cell gets the symbol, then the text style, then the glyph's own style
pub cell_written : (styles : List ℕ) (text-style column symbol number : ℕ) (row : List ℕ) (own-style with-symbol with-text-style cell : ℕ)
    → own-style ≡ style_at styles number → with-symbol ≡ with_symbol symbol (get_or row column 0)
    → with-text-style ≡ styled text-style with-symbol → cell ≡ styled own-style with-text-style
    → set row column cell ≡ set row column (cell_with styles text-style symbol number (get_or row column 0))
unfolding cell_with
cell_written styles text-style column symbol number row own-style with-symbol with-text-style cell r s t e = rw (e, t, s, r)

-- ---- one law for each path through `write_glyph`; b is what `is_written` answers

module _ (styles : List ℕ) (text-style column word : ℕ) (row : List ℕ) (p : Place) (b : Bool) (e : b ≡ is_written p) where
  pub glyph_unwritten : b ≡ false → row ≡ written_at styles text-style p column word row
  glyph_unwritten f = rw (← e, f) refl

  pub glyph-written : b ≡ true → (next : List ℕ) (own symbol number : ℕ) → own ≡ symbol_of word → symbol ≡ symbol_written p own → number ≡ style_of word
      → next ≡ set row column (cell_with styles text-style symbol number (get_or row column 0)) → next ≡ written_at styles text-style p column word row
  glyph-written t next own symbol number o s n f = rw (← e, t) (f ∙ rw (n, s, o) refl)

-- writing by a place draws by the rule
module _ (styles : List ℕ) (style column word : ℕ) (row : List ℕ) where
  -- the row with the glyph's first cell as the rule has it
  abbrev ruled : Place → List ℕ
  ruled p = changed (λ i cell. cond (eqb i column) (first_cell styles style p (symbol_of word) (style_of word) cell) cell) row

  kept : (p : Place) → ((cell : ℕ) → first_cell styles style p (symbol_of word) (style_of word) cell ≡ cell) → row ≡ ruled p
  kept p same =
      sym
      (changed-same _ (λ i cell. cell) row (λ i cell _. cond_cases (λ (new : ℕ). new ≡ cell) (eqb i column) _ _ (λ _. same cell) (λ _. refl))
      ∙ changed-none row)

  pub written_by_rule : (p : Place) → written_at styles (style_at styles style) p column word row ≡ ruled p
  unfolding first_cell glyph_cell cell_with
  written_by_rule ZeroWidth = kept ZeroWidth (λ _. refl)
  written_by_rule Placed = changed-one (glyph_cell styles style (symbol_of word) (style_of word)) column row
  written_by_rule Halved = changed-one (glyph_cell styles style blank_symbol (style_of word)) column row
  written_by_rule Outside = kept Outside (λ _. refl)

-- a glyph that is written starts left of the edge
pub written-starts : (edge column width : ℕ) (p : Place) (b : Bool) → p ≡ place_of edge column width → b ≡ is_written p → b ≡ true → column < edge
written-starts edge column width p b e k t =
    by_place edge column width (λ (q : Place). is_written q ≡ true → column < edge)
    (λ _ w. absurd (true≢false (sym w)))
    (λ _ _ w. absurd (true≢false (sym w)))
    (λ _ inside _ _. inside)
    (λ _ inside _ _. inside)
    (ap is_written (sym e) ∙ sym k ∙ t)

-- ---- the counts

-- a place adds to the counts that it counts as
pub place_counts : (c : GlyphCounts) (p : Place)
    → ((with_place c p).placed ≡ c.placed + cond (counts_as_placed p) 1 0) × ((with_place c p).clipped ≡ c.clipped + cond (counts_as_clipped p) 1 0)
unfolding with_place
place_counts c ZeroWidth = (omega arith, omega arith)
place_counts c Placed = (omega arith, omega arith)
place_counts c Halved = (omega arith, omega arith)
place_counts c Outside = (omega arith, omega arith)

-- and at most one is added
pub place_one : (c : GlyphCounts) (p : Place) → (with_place c p).placed + (with_place c p).clipped ≤ c.placed + c.clipped + 1
unfolding with_place
place_one c ZeroWidth = omega arith
place_one c Placed = omega arith
place_one c Halved = omega arith
place_one c Outside = omega arith
