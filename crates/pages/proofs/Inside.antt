-- Theorem `text-inside`: where a notice is drawn, every cell that a glyph of its text takes is in the inner area. Theorem `laid-inside`: in
-- the part of any area that `draw_text` is given, of which it meets a cell.
use Prim.Native.Nat.{ℕ, ◌+◌, ◌<◌}
use mathlib.Core.Path.{◌≡◌, refl, sym}
use mathlib.Core.Bool.{true, false, false≢true}
use native.Mathlib.Omega.{arith}
use Rattle.std.specs.Prelude.{Ok}
use Rattle.text.specs.Line.{Start}
use lib.ListN.{length}
use Rattle.layout.specs.declared.Rect.{Rect}
use Rattle.layout.specs.Rect.{meet, is_empty, contains}
use Rattle.buffer.specs.declared.Screen.{Screen}
use Rattle.buffer.specs.Drawing.{area_of}
use Rattle.buffer.specs.PartsExtra.{AreaOnScreen}
use Rattle.buffer.proofs.OnScreen.{meeting_on_screen}
use Rattle.buffer.proofs.Within.{cell_inside}
use Rattle.place.specs.declared.Place.{Place}
use Rattle.place.specs.declared.Place.TheVariants.{ZeroWidth, Placed, Halved, Outside}
use Rattle.place.specs.Place.{counts_as_placed, cells_taken}
use Rattle.place.proofs.Places.{taken_inside}
use Rattle.line_composer.specs.Places.{place_in, is_placed}
use Rattle.render_line.proofs.RowDrawn.{right-sum, bottom-sum}
use Rattle.draw_text.specs.Call as draw-text
use Rattle.draw_text.proofs.Answers.{composable}
use Rattle.draw_notice.specs.Call.{Call, screen_in}
use Rattle.pages.specs.Pages.{inner_area}
use Rattle.pages.specs.Inside.{DrawnNotice, TextInside}
use Rattle.pages.proofs.Screen.{drawn-there}

-- a placed glyph takes all its cells
placed_takes : (p : Place) (width : ℕ) → counts_as_placed p ≡ true → cells_taken p width ≡ width
placed_takes ZeroWidth width e = absurd (false≢true e)
placed_takes Placed width e = refl
placed_takes Halved width e = absurd (false≢true e)
placed_takes Outside width e = absurd (false≢true e)

-- an area on a screen
module _ (screen : Screen) (count : ℕ) (area : Rect) (there : AreaOnScreen screen count area) where
  glyph-inside : (s : Start) (row k : ℕ) → row < area.height → k < cells_taken (place_in area.width s) s.glyph.width
      → contains area (area.x + s.start + k) (area.y + row) ≡ true
  glyph-inside s row k down taken =
      let across : s.start + k < area.width = taken_inside area.width s.start s.glyph.width k taken in
      cell_inside _ _ _ _ (area.x + s.start + k) (area.y + row) (omega arith) (omega (arith, right-sum screen count area there)) (omega arith) (omega (arith, bottom-sum screen count area there))

  all-inside : (s : Start) (row k : ℕ) → row < area.height → is_placed area.width s ≡ true → k < s.glyph.width
      → contains area (area.x + s.start + k) (area.y + row) ≡ true
  unfolding is_placed
  all-inside s row k down placed wide = glyph-inside s row k down (omega (arith, placed_takes (place_in area.width s) s.glyph.width placed))

  area-inside : TextInside area
  area-inside = record { placed_inside = all-inside; taken_inside = glyph-inside }

pub text-inside : (i : Call) → DrawnNotice i → TextInside (inner_area i)
text-inside i d = area-inside (screen_in i) (length i.cells) (inner_area i) (drawn-there i d)

-- a text that is laid into any area: the part of it that is met
pub laid-inside : (call : draw-text.Call) → draw-text.verdict_of call ≡ Ok tt → is_empty (meet call.area (area_of (draw-text.screen_in call))) ≡ false
    → TextInside (meet call.area (area_of (draw-text.screen_in call)))
laid-inside call accepted some =
    let screen = draw-text.screen_in call in
    let count = length call.cells in
    let met = meet call.area (area_of screen) in
    let s = (composable call (Ok tt) (sym accepted) refl).1 in
    area-inside screen count met
    (record { on_screen = meeting_on_screen screen count met s.columns s.size call.area refl some; few_columns = s.few_columns; few_rows = s.few_rows })
