-- What the lines of a text keep of a cell: everything outside their area, and in it what styles and symbols keep.
use Prim.Native.Nat.{ℕ, ◌+◌, ◌-◌}
use mathlib.Core.Path.{◌≡◌, refl, ◌∙◌}
use mathlib.Core.Bool.{true}
use mathlib.Core.List.{List, [], ◌∷◌}
use lib.Dec.{eqb}
use lib.ListN.{get_or}
use Rattle.text.specs.Line.{Start}
use Rattle.text.proofs.Bools.{cond_cases}
use Rattle.cell.specs.Cell.{blank_symbol, with_symbol, styled}
use Rattle.layout.specs.declared.Rect.{Rect}
use Rattle.layout.specs.Rect.{contains}
use Rattle.buffer.specs.Drawing.{style_at}
use Rattle.buffer.proofs.Keeping.{CellKeeps, Keeps, InksKeep, inside_keeps}
use Rattle.place.specs.declared.Place.{Place}
use Rattle.place.specs.declared.Place.TheVariants.{ZeroWidth, Placed, Halved, Outside}
use Rattle.line_composer.specs.Lines.{Line}
use Rattle.line_composer.specs.Places.{place_in}
use Rattle.render_glyphs.specs.RenderGlyphs.{glyph_cell, first_cell, glyph_on, glyphs_on}
use Rattle.render_line.specs.RenderLine.{drawn_starts, line_on}
use Rattle.render_lines.specs.Rows.{no_composed_line, text_on}

module _ (read : ℕ → ℕ) (styles : List ℕ) (textStyle : ℕ) where
  cell_keeps : (number symbol : ℕ) → InksKeep read → CellKeeps read (glyph_cell styles textStyle symbol number)
  unfolding glyph_cell
  cell_keeps number symbol inks cell =
      inks.styles (style_at styles number) (styled (style_at styles textStyle) (with_symbol symbol cell))
      ∙ inks.styles (style_at styles textStyle) (with_symbol symbol cell)
      ∙ inks.symbols symbol cell

  first_keeps : (number symbol : ℕ) (p : Place) → InksKeep read → CellKeeps read (first_cell styles textStyle p symbol number)
  unfolding first_cell
  first_keeps number symbol ZeroWidth inks cell = refl
  first_keeps number symbol Placed inks cell = cell_keeps number symbol inks cell
  first_keeps number symbol Halved inks cell = cell_keeps number blank_symbol inks cell
  first_keeps number symbol Outside inks cell = refl

  glyph_keeps : (area : ℕ) (s : Start) (column : ℕ) → InksKeep read → CellKeeps read (glyph_on styles textStyle area s column)
  unfolding glyph_on
  glyph_keeps area s column inks cell =
      cond_cases (λ (new : ℕ). read new ≡ read cell) (eqb column s.start) _ _
      (λ _. first_keeps s.glyph.style s.glyph.symbol (place_in area s) inks cell)
      (λ _. refl)

  glyphs_keep : (area : ℕ) (ss : List Start) (column : ℕ) → InksKeep read → CellKeeps read (glyphs_on styles textStyle area ss column)
  glyphs_keep area [] column inks cell = refl
  glyphs_keep area (s ∷ ss) column inks cell =
      glyphs_keep area ss column inks (glyph_on styles textStyle area s column cell) ∙ glyph_keeps area s column inks cell

  line_keeps : (area : ℕ) (line : Line) (column : ℕ) → InksKeep read → CellKeeps read (line_on styles textStyle area line column)
  unfolding line_on
  line_keeps area line column inks = glyphs_keep area (drawn_starts area line) column inks

  pub text_keeps : (lines : List Line) (area : Rect) (scroll column row : ℕ) → (contains area column row ≡ true → InksKeep read)
      → Keeps read (text_on styles textStyle lines area scroll) column row
  unfolding text_on
  text_keeps lines area scroll column row inks =
      inside_keeps read column row area (λ column row. line_on styles textStyle area.width (get_or lines (scroll + row) no_composed_line) column)
      (λ here. line_keeps area.width (get_or lines (scroll + (row - area.y)) no_composed_line) (column - area.x) (inks here))
