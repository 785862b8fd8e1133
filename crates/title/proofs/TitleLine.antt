-- A title line on its row, and a title in its area.
use Prim.Native.Nat.{ℕ, ◌+◌, ◌-◌, ◌*◌, ◌≤◌, ◌<◌}
use mathlib.Core.Path.{◌≡◌, refl, ◌∙◌}
use mathlib.Core.Logic.{◌⊎◌, inl, inr, dite}
use mathlib.Core.List.{List, [], ◌∷◌, ◌++◌}
use native.Mathlib.Decide.{dec_lt}
use native.Mathlib.Omega.{arith}
use mir.Syntax.{w16}
use mir.Val.{Fits}
use lib.ListN.{length, take, drop}
use Rattle.text.specs.declared.Alignment.{Alignment}
use Rattle.text.specs.declared.Alignment.TheVariants.{Left, Center, Right}
use Rattle.text.specs.Line.{Glyph, starts_from}
use Rattle.layout.specs.declared.Rect.{Rect}
use Rattle.layout.specs.Rect.{right_of}
use Rattle.buffer.specs.declared.Screen.{Screen}
use Rattle.buffer.specs.declared.Ink.TheVariants.{Style}
use Rattle.buffer.specs.Drawing.{changed, drawn, over, inside, style_at}
use Rattle.buffer.specs.InkExtra.{inked}
use Rattle.buffer.specs.PartsExtra.{in_row}
use Rattle.buffer.proofs.Changed.{changed-same, part_length, part-borrowed}
use Rattle.buffer.proofs.Drawn.{drawn-same}
use Rattle.buffer.proofs.Over.{row_inside}
use Rattle.buffer.proofs.Rows.{row-borrowed, row_fits}
use Rattle.buffer.proofs.Order.{first_then}
use Rattle.title_glyphs.specs.TitleGlyphs.{until_overrun, title_glyphs_on}
use Rattle.title.specs.Title.{title_line_width, line_start, hidden_columns, title_line, title_in}
use Rattle.title.specs.FittingExtra.{TitleArea}
use Rattle.title.proofs.Moving.{line-moved}

-- the start column is at most w
start-at-most_w : (alignment : Alignment) (t w : ℕ) → line_start alignment t w ≤ w
start-at-most_w Left t w = omega arith
start-at-most_w Center t w = omega arith
start-at-most_w Right t w = omega arith

pub starts-within : (alignment : Alignment) (t w start n : ℕ) → start ≡ line_start alignment t w → w ≡ n → start ≤ n
starts-within alignment t w start n e p = omega (arith, e, start-at-most_w alignment t w)

-- a line hides no column or starts in the first
hides_or_starts : (alignment : Alignment) (t w : ℕ) → (hidden_columns alignment t w ≡ 0) ⊎ (line_start alignment t w ≡ 0)
hides_or_starts Left t w = inl refl
hides_or_starts Center t w = inl refl
hides_or_starts Right t w = dite (dec_lt w t) (λ (h : w < t). inr (omega arith)) (λ n. inl (omega (arith, n)))

-- A line of width `t` on a row of `w` cells has this many hidden columns and this start column.
pub record LineOnRow (alignment : Alignment) (row : List ℕ) (w t hidden start : ℕ) : Type 0 where
  pub is_row : w ≡ length row
  pub hides : hidden ≡ hidden_columns alignment t w
  pub starts : start ≡ line_start alignment t w

module _ (alignment : Alignment) (w : ℕ) (glyphs : List Glyph) (row : List ℕ) (t hidden start : ℕ) (is-width : t ≡ title_line_width glyphs) where
  -- the slice of the row from the start column
  abbrev slice : List ℕ
  slice = take (length row - start) (drop start row)

  -- writing the glyphs on that slice writes the line on the row
  pub line-written : (styles part : List ℕ) → LineOnRow alignment row w t hidden start
      → part ≡ changed (title_glyphs_on styles hidden (until_overrun (hidden + length slice) (starts_from 0 glyphs))) slice
      → take start row ++ (part ++ drop (length row - start) (drop start row)) ≡ changed (title_line styles alignment w glyphs) row
  unfolding title_line
  line-written styles part l h =
      let low : start ≤ length row = starts-within alignment t w start (length row) l.starts l.is_row in
      let size : length slice ≡ length row - start = part_length start (length row) row low (omega arith) in
      let either : (hidden ≡ 0) ⊎ (start ≡ 0) = rw (l.hides, l.starts) (hides_or_starts alignment t w) in
      part-borrowed _ start (length row) row part low (omega arith) (rw size at h)
      ∙ rw (← is-width, ← l.hides, ← l.starts, l.is_row)
      (changed-same _ _ row (λ i cell inside. line-moved styles glyphs (length row) i cell inside hidden start either low))

-- the row of a title's area ends within the cells
pub row-end : (s : Screen) (n : ℕ) (r : Rect) → TitleArea s n r → r.y * s.columns + right_of r ≤ n
row-end s n r a = row_fits s.columns (right_of r) r.y s.rows n a.on_screen.right a.in_rows a.on_screen.size

module _ (s : Screen) (r : Rect) (styles : List ℕ) (alignment : Alignment) (glyphs : List Glyph) (cells : List ℕ) where
  -- writing the line on the slice of the area's cells draws it in the area
  pub line-drawn : (right : ℕ) (part : List ℕ) → TitleArea s (length cells) r → right ≡ right_of r
      → part ≡ changed (title_line styles alignment r.width glyphs)
      (take ((r.y * s.columns + right) - (r.y * s.columns + r.x)) (drop (r.y * s.columns + r.x) cells))
      → take (r.y * s.columns + r.x) cells ++ (part ++ drop ((r.y * s.columns + right) - (r.y * s.columns + r.x)) (drop (r.y * s.columns + r.x) cells))
      ≡ drawn s.columns (in_row r.x (right_of r) r.y (title_line styles alignment r.width glyphs)) cells
  line-drawn right part a e h =
      rw e (row-borrowed s.columns r.x (right_of r) r.y (title_line styles alignment r.width glyphs) cells part
      a.on_screen.columns (omega (arith, a.few_columns, a.on_screen.right)) a.on_screen.right (row-end s (length cells) r a) (rw e at h))

  -- the titles style, then the line
  pub title-drawn : (number style : ℕ) (next last : List ℕ) → TitleArea s (length cells) r → Fits w16 s.rows → style ≡ style_at styles number
      → next ≡ drawn s.columns (over r (inked (Style style))) cells
      → last ≡ drawn s.columns (in_row r.x (right_of r) r.y (title_line styles alignment r.width glyphs)) next
      → last ≡ drawn s.columns (title_in styles number r alignment glyphs) cells
  unfolding title_in inked
  title-drawn number style next last a fits e p q =
      first_then s.columns _ (inside r (λ column row. title_line styles alignment r.width glyphs column) ∷ []) cells next last (rw e at p)
      (q
      ∙ drawn-same s.columns _ _ next a.on_screen.columns
      (λ column row cell _. row_inside r (title_line styles alignment r.width glyphs) column row cell a.one_row (omega (arith, a.in_rows, fits.fits))))
