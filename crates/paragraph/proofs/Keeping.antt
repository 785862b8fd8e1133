-- What drawing a notice's frame, or its text, keeps of a cell.
use Prim.Native.Nat.{ℕ}
use mathlib.Core.Path.{◌≡◌, refl, sym}
use mathlib.Core.Bool.{Bool, true, false, not, true≢false}
use mathlib.Core.List.{List, [], ◌∷◌}
use Rattle.cell.specs.Cell.{styled}
use Rattle.layout.specs.declared.Rect.{Rect}
use Rattle.layout.specs.Rect.{meet, is_empty, contains}
use Rattle.block.specs.declared.Block.{Block}
use Rattle.buffer.specs.declared.Screen.{Screen}
use Rattle.buffer.specs.Drawing.{over, only_if, in_order, area_of, style_at}
use Rattle.buffer.proofs.Keeping.{Keeps, InksKeep, order_keeps, only_keeps}
use Rattle.titles.specs.Titles.{Title}
use Rattle.render_block.specs.Frame.{frame}
use Rattle.render_block.proofs.Keeping.{style_keeps}
use Rattle.render_lines.specs.Rows.{text_on}
use Rattle.render_lines.proofs.Keeping.{text_keeps}
use Rattle.render_text.specs.declared.TextSettings.{TextSettings}
use Rattle.paragraph.specs.Notice.{notice_lines, inside_of}
use Rattle.paragraph.specs.Apart.{frame_of}

not-true : (e : Bool) → not e ≡ true → e ≡ false
not-true true h = absurd (true≢false (sym h))
not-true false h = refl

module _ (read : ℕ → ℕ) (column row : ℕ) (styles : List ℕ) where
  -- the frame: what styles keep if the cell is in the met area, and the block's frame keeps
  pub frame_keeps : (screen : Screen) (titles : List Title) (style : ℕ) (b : Block) (area : Rect)
      → (contains (meet area (area_of screen)) column row ≡ true → InksKeep read)
      → (is_empty (meet area (area_of screen)) ≡ false → Keeps read (frame styles screen titles b (meet area (area_of screen))) column row)
      → Keeps read (frame_of styles screen titles style b area) column row
  unfolding frame_of
  frame_keeps screen titles style b area in-met block_keeps =
      let met = meet area (area_of screen) in
      let under = over met (styled (style_at styles style)) in
      let around = frame styles screen titles b met in
      only_keeps read column row (not (is_empty met)) (in_order (under ∷ around ∷ []))
      (λ some.
      order_keeps read column row (under ∷ around ∷ [])
      (style_keeps read column row met (style_at styles style) in-met, (block_keeps (not-true (is_empty met) some), tt)))

  -- the text: what styles and symbols keep if the cell is in the area
  pub inside_keeps : (text : List ℕ) (s : TextSettings) (inner : Rect) → (contains inner column row ≡ true → InksKeep read)
      → Keeps read (inside_of styles text s inner) column row
  unfolding inside_of
  inside_keeps text s inner inks =
      let lines = text_on styles s.text_style (notice_lines s text inner.width) inner s.scroll in
      order_keeps read column row (over inner (styled (style_at styles s.style)) ∷ only_if (not (is_empty inner)) lines ∷ []) (
        style_keeps read column row inner (style_at styles s.style) inks,
        (
          only_keeps read column row (not (is_empty inner)) lines
              (λ _. text_keeps read styles s.text_style (notice_lines s text inner.width) inner s.scroll column row inks),
          tt,
        ),
      )
