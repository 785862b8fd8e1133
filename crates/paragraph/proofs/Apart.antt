-- Document 02, C-15, on drawings: the frame, then the text into the inner area of the met area, are the combined drawing, with its
-- counts. The inner area meets the screen in itself, or is empty, and then draws no cell.
use Prim.Native.Nat.{ℕ, ◌<◌, ◌≤◌, ◌^◌}
use mathlib.Core.Path.{◌≡◌, refl, sym, ap, ◌∙◌}
use mathlib.Core.Bool.{Bool, true, false, ◌||◌, or-true, true≢false}
use mathlib.Core.List.{List}
use native.Mathlib.Omega.{arith}
use borrow.Author.Tests.{eqb-true, eq-eqb}
use lib.Dec.{eqb}
use Rattle.layout.specs.declared.Rect.{Rect}
use Rattle.layout.specs.Rect.{right_of, bottom_of, meet, is_empty}
use Rattle.block.specs.declared.Block.{Block}
use Rattle.block.specs.Inner.{inner_of}
use Rattle.buffer.specs.declared.Screen.{Screen}
use Rattle.buffer.specs.Drawing.{drawn, area_of}
use Rattle.buffer.specs.PartsExtra.{HasCells}
use Rattle.buffer.proofs.Drawn.{drawn_then, drawn-same}
use Rattle.buffer.proofs.OnScreen.{meeting_on_screen}
use Rattle.titles.specs.Titles.{titles_from}
use Rattle.render_text.specs.declared.TextSettings.{TextSettings}
use Rattle.paragraph.specs.declared.Notice.{Notice}
use Rattle.paragraph.specs.Notice.{settings_of, inner_area_of, inside_of, notice_of, no_draw_counts, inside_counts, notice_counts}
use Rattle.paragraph.specs.Apart.{frame_of, paragraph_of, paragraph_counts}
use Rattle.paragraph.proofs.Insides.{inner-on_screen, inside-none, inside-empty}
use Rattle.paragraph.proofs.Frames.{empty-inner, outer_some}

-- an area on a screen meets it in itself
met_itself : (screen : Screen) (r : Rect) → screen.columns < 2 ^ 15 → screen.rows < 2 ^ 15 → right_of r ≤ screen.columns → bottom_of r ≤ screen.rows
    → meet r (area_of screen) ≡ r
met_itself screen r few_columns few_rows right bottom =
    let m : Rect = meet r (area_of screen) in
    let x : m.x ≡ r.x = omega arith in
    let y : m.y ≡ r.y = omega arith in
    let width : m.width ≡ r.width = omega arith in
    let height : m.height ≡ r.height = omega arith in
    rw (width, height, x, y) refl

-- an empty area meets the screen in an empty one
met-empty : (screen : Screen) (r : Rect) → is_empty r ≡ true → is_empty (meet r (area_of screen)) ≡ true
met-empty screen r e = go (eqb r.width 0) (eqb r.height 0) refl refl e
  where
    go : (w h : Bool) → w ≡ eqb r.width 0 → h ≡ eqb r.height 0 → w || h ≡ true → is_empty (meet r (area_of screen)) ≡ true
    go true h p q t = rw (eq-eqb (meet r (area_of screen)).width 0 (omega (arith, eqb-true r.width 0 (sym p))))
    go false true p q t = rw (eq-eqb (meet r (area_of screen)).height 0 (omega (arith, eqb-true r.height 0 (sym q))), or-true)
    go false false p q t = absurd (true≢false (sym t))

-- in an empty area no cell is drawn
pub paragraph_empty : (screen : Screen) (styles text : List ℕ) (s : TextSettings) (area : Rect) (cells : List ℕ) → is_empty area ≡ true → 0 < screen.columns
    → drawn screen.columns (paragraph_of styles screen text s area) cells ≡ cells
unfolding paragraph_of
paragraph_empty screen styles text s area cells e some =
    sym (inside-empty screen.columns styles text s (meet area (area_of screen)) cells (met-empty screen area e) some)

none-counted : (text : List ℕ) (s : TextSettings) (r : Rect) → is_empty r ≡ true → inside_counts text s r ≡ no_draw_counts
unfolding inside_counts
none-counted text s r e = rw e

module _ (screen : Screen) (count : ℕ) (there : HasCells screen count) (titles : List ℕ) (b : Block) (area : Rect) where
  abbrev met : Rect
  met = meet area (area_of screen)

  abbrev inner : Rect
  inner = inner_area_of screen titles b area

  -- a non-empty inner area is that of a non-empty meeting, on the screen
  inner-met : is_empty inner ≡ false → meet inner (area_of screen) ≡ inner
  unfolding inner_area_of
  inner-met some =
      let met-on = meeting_on_screen screen count met there.columns there.size area refl (outer_some b titles met some) in
      let on = inner-on_screen screen count b titles met met-on there.few_columns there.few_rows some in
      met_itself screen (inner_of b titles met) there.few_columns there.few_rows on.on_screen.right on.on_screen.bottom

  -- the text into the inner area, met with the screen or not
  same-inside : (styles text : List ℕ) (s : TextSettings) (column row cell : ℕ)
      → paragraph_of styles screen text s inner column row cell ≡ inside_of styles text s inner column row cell
  unfolding paragraph_of
  same-inside styles text s column row cell = go (is_empty inner) refl
    where
      go : (e : Bool) → is_empty inner ≡ e → inside_of styles text s (meet inner (area_of screen)) column row cell ≡ inside_of styles text s inner column row cell
      go true e = inside-none styles text s (meet inner (area_of screen)) column row cell (met-empty screen inner e) ∙ sym (inside-none styles text s inner column row cell e)
      go false e = ap (λ (r : Rect). inside_of styles text s r column row cell) (inner-met e)

  same-inside-counts : (text : List ℕ) (s : TextSettings) → paragraph_counts screen text s inner ≡ inside_counts text s inner
  unfolding paragraph_counts
  same-inside-counts text s = go (is_empty inner) refl
    where
      go : (e : Bool) → is_empty inner ≡ e → inside_counts text s (meet inner (area_of screen)) ≡ inside_counts text s inner
      go true e = none-counted text s (meet inner (area_of screen)) (met-empty screen inner e) ∙ sym (none-counted text s inner e)
      go false e = ap (inside_counts text s) (inner-met e)

module _ (screen : Screen) (count : ℕ) (there : HasCells screen count) (styles text titles : List ℕ) (n : Notice) (area : Rect) where
  -- the frame, then the text into the inner area
  cell_together : (column row cell : ℕ)
      → inside_of styles text (settings_of n) (inner_area_of screen titles n.block area) column row
      (frame_of styles screen (titles_from n.ambiguous titles) n.style n.block area column row cell)
      ≡ notice_of styles screen text titles n area column row cell
  unfolding notice_of frame_of inner_area_of
  cell_together column row cell = go (is_empty (meet area (area_of screen))) refl
    where
      go : (e : Bool) → is_empty (meet area (area_of screen)) ≡ e
          → inside_of styles text (settings_of n) (inner_of n.block titles (meet area (area_of screen))) column row
          (frame_of styles screen (titles_from n.ambiguous titles) n.style n.block area column row cell)
          ≡ notice_of styles screen text titles n area column row cell
      go true e = rw e (inside-none styles text (settings_of n) _ column row cell (empty-inner n.block titles _ e))
      go false e = rw e

  pub drawn_together : (cells : List ℕ)
      → drawn screen.columns (paragraph_of styles screen text (settings_of n) (inner_area_of screen titles n.block area))
      (drawn screen.columns (frame_of styles screen (titles_from n.ambiguous titles) n.style n.block area) cells)
      ≡ drawn screen.columns (notice_of styles screen text titles n area) cells
  drawn_together cells =
      drawn_then screen.columns _ _ cells
      ∙ drawn-same screen.columns _ _ cells there.columns
      (λ column row cell _.
      same-inside screen count there titles n.block area styles text (settings_of n) column row _ ∙ cell_together column row cell)

  pub counted_together : paragraph_counts screen text (settings_of n) (inner_area_of screen titles n.block area) ≡ notice_counts screen text titles n area
  unfolding notice_counts
  counted_together = same-inside-counts screen count there titles n.block area text (settings_of n)
