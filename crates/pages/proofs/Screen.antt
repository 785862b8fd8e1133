-- For an accepted notice with a non-empty inner area: the inner area is on the screen, and every page of a wrapped one is accepted.
use Prim.Native.Nat.{ℕ, ◌+◌, ◌*◌, ◌<◌, ◌≤◌}
use mathlib.Core.Path.{◌≡◌, refl, sym, ◌∙◌}
use mathlib.Core.Bool.{true, false}
use native.Mathlib.Omega.{arith}
use borrow.Author.Tests.{ne_eqb}
use lib.ListN.{length, length-replicate}
use Rattle.std.specs.Prelude.{Ok}
use Rattle.cell.specs.Cell.{blank_cell}
use Rattle.layout.specs.declared.Rect.{Rect}
use Rattle.layout.specs.Rect.{right_of, bottom_of, meet, is_empty, contains}
use Rattle.refuse.specs.Causes.{most_accepted}
use Rattle.refuse.proofs.Accepted.{ScreenAccepted, sized}
use Rattle.buffer.specs.Drawing.{area_of}
use Rattle.buffer.specs.PartsExtra.{HasCells, AreaOnScreen}
use Rattle.buffer.proofs.OnScreen.{meeting_on_screen}
use Rattle.buffer.proofs.Within.{cell_inside}
use Rattle.layout.proofs.NotEmpty.{not-empty}
use Rattle.render_line.proofs.RowDrawn.{right-sum, bottom-sum}
use Rattle.paragraph.specs.Notice.{inner_area_of}
use Rattle.paragraph.proofs.Insides.{inner-on_screen}
use Rattle.paragraph.proofs.Frames.{outer_some}
use Rattle.draw_text.specs.Call.{text_styles}
use Rattle.draw_notice.specs.Call.{Call, notice_styles, causes_of, verdict_of, screen_in}
use Rattle.draw_notice.specs.Pair.{BothAccepted}
use Rattle.draw_notice.proofs.Answers.{screen_right, screen_cells}
use Rattle.draw_notice.proofs.Pair.{accepted-whole, accepted-apart}
use Rattle.pages.specs.Pages.{blank_cells, call_at, inner_area}
use Rattle.pages.specs.Reading.{WrappedNotice}
use Rattle.pages.specs.Inside.{DrawnNotice}

-- a rectangle with a column and a row isn't empty; `not-empty` is the converse
pub some_cell : (r : Rect) → 0 < r.width → 0 < r.height → is_empty r ≡ false
some_cell r wide high = rw (ne_eqb r.width 0 (λ e. omega arith), ne_eqb r.height 0 (λ e. omega arith))

-- the intersection of the notice's area and the screen
abbrev pub met : Call → Rect
met i = meet i.area (area_of (screen_in i))

-- a non-empty inner area: something is met, and the inner area is on a screen with cells
module _ (i : Call) (some : is_empty (inner_area i) ≡ false) where
  pub some-met : is_empty (met i) ≡ false
  unfolding inner_area inner_area_of
  some-met = outer_some i.notice.block i.titles (met i) some

  pub inner-there : HasCells (screen_in i) (length i.cells) → AreaOnScreen (screen_in i) (length i.cells) (inner_area i)
  unfolding inner_area inner_area_of
  inner-there s =
      inner-on_screen (screen_in i) (length i.cells) i.notice.block i.titles (met i)
      (meeting_on_screen (screen_in i) (length i.cells) (met i) s.columns s.size i.area refl some-met)
      s.few_columns s.few_rows some

-- an accepted notice with a non-empty inner area, wrapped or not
module _ (i : Call) (d : DrawnNotice i) where
  pub drawn-met : is_empty (met i) ≡ false
  drawn-met = some-met i d.some_cell

  -- the inner area is on the screen
  pub drawn-there : AreaOnScreen (screen_in i) (length i.cells) (inner_area i)
  drawn-there = inner-there i d.some_cell (screen_cells i (accepted-whole i d.accepted))

  -- so its right and bottom don't saturate, and it contains each cell between its edges
  pub right_there : right_of (inner_area i) ≡ (inner_area i).x + (inner_area i).width
  right_there = right-sum (screen_in i) (length i.cells) (inner_area i) drawn-there

  pub bottom-there : bottom_of (inner_area i) ≡ (inner_area i).y + (inner_area i).height
  bottom-there = bottom-sum (screen_in i) (length i.cells) (inner_area i) drawn-there

  pub inner_has : (column row : ℕ) → (inner_area i).x ≤ column → column < (inner_area i).x + (inner_area i).width
      → (inner_area i).y ≤ row → row < (inner_area i).y + (inner_area i).height → contains (inner_area i) column row ≡ true
  inner_has column row left right top bottom =
      cell_inside _ _ _ _ column row left (omega (arith, right_there)) top (omega (arith, bottom-there))

module _ (i : Call) (w : WrappedNotice i) where
  pub is-drawn : DrawnNotice i
  is-drawn = record { accepted = w.accepted; some_cell = w.some_cell }

  pub screen_sized : ScreenAccepted most_accepted i.columns i.rows (length i.cells)
  screen_sized = sized most_accepted i.columns i.rows (length i.cells) (screen_right i (accepted-whole i w.accepted))

  pub all-blank : length (blank_cells i) ≡ length i.cells
  all-blank = length-replicate (i.columns * i.rows) blank_cell ∙ sym screen_sized.all_cells

  -- no cause depends on the scroll row or on the contents of cells
  whole-at : (scroll : ℕ) → verdict_of (call_at i scroll) ≡ Ok tt
  unfolding verdict_of causes_of notice_styles text_styles
  whole-at scroll = rw all-blank (accepted-whole i w.accepted)

  pub accepted-at : (scroll : ℕ) → BothAccepted (call_at i scroll)
  accepted-at scroll = accepted-apart (call_at i scroll) (whole-at scroll)

  -- nor does the inner area
  pub page-drawn : (scroll : ℕ) → DrawnNotice (call_at i scroll)
  unfolding inner_area inner_area_of
  page-drawn scroll = record { accepted = accepted-at scroll; some_cell = w.some_cell }

  pub inner-some : (0 < (inner_area i).width) × (0 < (inner_area i).height)
  inner-some = not-empty (inner_area i) w.some_cell
