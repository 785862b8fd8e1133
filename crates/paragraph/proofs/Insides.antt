-- The text in the intersection of an area and the screen: one law for each path through `render_paragraph`. `inner-on_screen`: a non-empty
-- inner area is on the screen.
use Prim.Native.Nat.{ℕ, ◌<◌, ◌^◌}
use mathlib.Core.Path.{◌≡◌, sym, ◌∙◌}
use mathlib.Core.Bool.{Bool, true, false}
use mathlib.Core.List.{List}
use native.Mathlib.Omega.{arith}
use Rattle.block.specs.declared.Block.{Block}
use Rattle.block.specs.Inner.{inner_of}
use Rattle.block.proofs.Within.{inside}
use Rattle.layout.specs.declared.Rect.{Rect}
use Rattle.layout.specs.Rect.{meet, is_empty}
use Rattle.buffer.specs.declared.Screen.{Screen}
use Rattle.buffer.specs.Drawing.{drawn, area_of}
use Rattle.buffer.specs.PartsExtra.{OnScreen, HasCells, AreaOnScreen}
use Rattle.buffer.proofs.Drawn.{drawn-same, drawn-none}
use Rattle.layout.proofs.NotEmpty.{not-empty}
use Rattle.buffer.proofs.Over.{over-empty}
use Rattle.render_block.proofs.Frames.{met-on_screen}
use Rattle.render_lines.specs.declared.DrawCounts.{DrawCounts}
use Rattle.render_text.specs.declared.TextSettings.{TextSettings}
use Rattle.render_text.specs.SettingsExtra.{text_options_of, lines_on, lines_counted}
use Rattle.paragraph.specs.Notice.{notice_lines, no_draw_counts, inside_of, inside_counts}
use Rattle.paragraph.specs.Apart.{paragraph_of, paragraph_counts}

-- a non-empty inner area of an area on the screen is on the screen
pub inner-on_screen : (screen : Screen) (count : ℕ) (b : Block) (titles : List ℕ) (met : Rect) → OnScreen screen count met
    → screen.columns < 2 ^ 15 → screen.rows < 2 ^ 15 → is_empty (inner_of b titles met) ≡ false → AreaOnScreen screen count (inner_of b titles met)
inner-on_screen screen count b titles met on few_columns few_rows e =
    let inner : Rect = inner_of b titles met in
    let sizes = not-empty inner e in
    let across = on.right in
    let down = on.bottom in
    let within = inside b titles met (omega arith) (omega arith) sizes.0 sizes.1 in
    record {
      on_screen = record { columns = on.columns; size = on.size; right = omega (arith, within.right); bottom = omega (arith, within.bottom) };
      few_columns = few_columns;
      few_rows = few_rows;
    }

-- in an empty area no cell is drawn
pub inside-none : (styles text : List ℕ) (s : TextSettings) (inner : Rect) (column row cell : ℕ) → is_empty inner ≡ true
    → inside_of styles text s inner column row cell ≡ cell
unfolding inside_of
inside-none styles text s inner column row cell e = rw e (over-empty inner _ column row cell e)

pub inside-empty : (columns : ℕ) (styles text : List ℕ) (s : TextSettings) (inner : Rect) (cells : List ℕ)
    → is_empty inner ≡ true → 0 < columns → cells ≡ drawn columns (inside_of styles text s inner) cells
inside-empty columns styles text s inner cells e some =
    sym
    (drawn-same columns (inside_of styles text s inner) (λ column row cell. cell) cells some (λ column row cell _. inside-none styles text s inner column row cell e)
    ∙ drawn-none columns cells)

module _ (screen : Screen) (text : List ℕ) (s : TextSettings) (area all met : Rect) (a : all ≡ area_of screen) (m : met ≡ meet area all) (empty : Bool) (f : empty ≡ is_empty met) where
  met-is_meeting : met ≡ meet area (area_of screen)
  met-is_meeting = rw a at m

  none-met : empty ≡ true → is_empty (meet area (area_of screen)) ≡ true
  none-met g = rw met-is_meeting at (sym f ∙ g)

  some-met : empty ≡ false → is_empty (meet area (area_of screen)) ≡ false
  some-met g = rw met-is_meeting at (sym f ∙ g)

  module _ (columns : ℕ) (styles cells : List ℕ) where
    -- an empty meeting draws no cell
    pub text-left : empty ≡ true → 0 < columns → cells ≡ drawn columns (paragraph_of styles screen text s area) cells
    unfolding paragraph_of
    text-left g some = inside-empty columns styles text s (meet area (area_of screen)) cells (none-met g) some

    -- a non-empty meeting gets its style, then its lines
    pub text_drawn : empty ≡ false → (last : List ℕ) → last ≡ drawn columns (lines_on styles text s met) cells
        → last ≡ drawn columns (paragraph_of styles screen text s area) cells
    unfolding paragraph_of inside_of notice_lines lines_on text_options_of
    text_drawn g last p = rw (some-met g) (rw met-is_meeting at p)

  pub text-none : empty ≡ true → no_draw_counts ≡ paragraph_counts screen text s area
  unfolding paragraph_counts inside_counts
  text-none g = rw (none-met g)

  pub text-counted : empty ≡ false → (r : DrawCounts) → r ≡ lines_counted text s met → r ≡ paragraph_counts screen text s area
  unfolding paragraph_counts inside_counts notice_lines lines_counted text_options_of
  text-counted g r p = rw (some-met g) (rw met-is_meeting at p)

-- a non-empty meeting is on the screen
pub area-there : (screen : Screen) (count : ℕ) (area all met : Rect) (empty : Bool) → HasCells screen count → all ≡ area_of screen → met ≡ meet area all
    → empty ≡ is_empty met → empty ≡ false → AreaOnScreen screen count met
area-there screen count area all met empty h a m f g =
    record { on_screen = met-on_screen screen count area all met empty h a m f g; few_columns = h.few_columns; few_rows = h.few_rows }

pub ruleset inside-laws = (text-left, text_drawn, text-none, text-counted, area-there)
