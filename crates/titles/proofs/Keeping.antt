-- What titles keep of a cell: everything outside their areas, and in them what styles and symbols keep.
use Prim.Native.Nat.{ℕ, ◌+◌}
use mathlib.Core.Path.{◌≡◌, refl, ◌∙◌}
use mathlib.Core.Bool.{Bool, true, false, cond, ◌&&◌}
use mathlib.Core.List.{List, [], ◌∷◌, ◌++◌}
use lib.Dec.{eqb}
use Rattle.text.specs.declared.Alignment.{Alignment}
use Rattle.text.specs.declared.TitlePosition.TheVariants.{Top, Bottom}
use Rattle.text.specs.Line.{Glyph, Start, starts_from}
use Rattle.cell.specs.Cell.{with_symbol, styled}
use Rattle.layout.specs.declared.Rect.{Rect}
use Rattle.layout.specs.Rect.{contains}
use Rattle.buffer.specs.Drawing.{over, inside, style_at}
use Rattle.buffer.proofs.Keeping.{CellKeeps, Keeps, InksKeep, order_keeps, over_keeps, inside_keeps}
use Rattle.block.specs.declared.Block.{Block}
use Rattle.title_glyphs.specs.TitleGlyphs.{until_overrun, is_drawn, title_glyph_on, title_glyphs_on}
use Rattle.title.specs.Title.{title_line_width, line_start, hidden_columns, title_line, title_in}
use Rattle.titles.specs.Titles.{Title, PlacedTitle, title_drawn, titles_drawn, titles_at, titles_on}

module _ (read : ℕ → ℕ) (inks : InksKeep read) (styles : List ℕ) where
  glyph_keeps : (hidden : ℕ) (s : Start) (column : ℕ) → CellKeeps read (title_glyph_on styles hidden s column)
  unfolding title_glyph_on
  glyph_keeps hidden s column cell = go (is_drawn hidden s && eqb (hidden + column) s.start)
    where
      go : (b : Bool) → read (cond b (styled (style_at styles s.glyph.style) (with_symbol s.glyph.symbol cell)) cell) ≡ read cell
      go true = inks.styles (style_at styles s.glyph.style) (with_symbol s.glyph.symbol cell) ∙ inks.symbols s.glyph.symbol cell
      go false = refl

  glyphs_keep : (hidden : ℕ) (ss : List Start) (column : ℕ) → CellKeeps read (title_glyphs_on styles hidden ss column)
  glyphs_keep hidden [] column cell = refl
  glyphs_keep hidden (s ∷ ss) column cell = glyphs_keep hidden ss column (title_glyph_on styles hidden s column cell) ∙ glyph_keeps hidden s column cell

  line_keeps : (alignment : Alignment) (w : ℕ) (glyphs : List Glyph) (column : ℕ) → CellKeeps read (title_line styles alignment w glyphs column)
  unfolding title_line
  line_keeps alignment w glyphs column =
      let t = title_line_width glyphs in
      let hidden = hidden_columns alignment t w in
      glyphs_keep hidden (until_overrun (hidden + w) (starts_from (line_start alignment t w) glyphs)) column

module _ (read : ℕ → ℕ) (column row : ℕ) (styles : List ℕ) where
  title_keeps : (style : ℕ) (area : Rect) (alignment : Alignment) (glyphs : List Glyph) → (contains area column row ≡ true → InksKeep read)
      → Keeps read (title_in styles style area alignment glyphs) column row
  unfolding title_in
  title_keeps style area alignment glyphs inks =
      order_keeps read column row (over area (styled (style_at styles style)) ∷ inside area (λ column row. title_line styles alignment area.width glyphs column) ∷ []) (
        over_keeps read column row area (styled (style_at styles style)) (λ here. (inks here).styles (style_at styles style)),
        (
          inside_keeps read column row area (λ column row. title_line styles alignment area.width glyphs column)
              (λ here. line_keeps read (inks here) styles alignment area.width glyphs _),
          tt,
        ),
      )

  -- styles and symbols keep it if the cell is in the area of one of these titles
  abbrev pub KeptInAreas : List PlacedTitle → Type 0
  KeptInAreas [] = Unit {0}
  KeptInAreas (p ∷ ps) = (contains p.area column row ≡ true → InksKeep read) × KeptInAreas ps

  pub placed_keep : (b : Block) (ps : List PlacedTitle) → KeptInAreas ps → Keeps read (titles_drawn styles b ps) column row
  placed_keep b [] kept cell = refl
  placed_keep b (p ∷ ps) kept cell =
      placed_keep b ps kept.1 (title_drawn styles b p column row cell)
      ∙ title_keeps b.titles_style p.area p.alignment p.title.glyphs kept.0 cell

  module _ (inks : InksKeep read) where
    kept_everywhere : (ps : List PlacedTitle) → KeptInAreas ps
    kept_everywhere [] = tt
    kept_everywhere (p ∷ ps) = (λ here. inks, kept_everywhere ps)

    pub titles_keep : (b : Block) (met : Rect) (ts : List Title) → Keeps read (titles_on styles b met ts) column row
    unfolding titles_on
    titles_keep b met ts =
        let placed = titles_at b Top met ts ++ titles_at b Bottom met ts in
        placed_keep b placed (kept_everywhere placed)
