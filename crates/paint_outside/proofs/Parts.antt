-- If an area and another rectangle lie on the screen, so do the four parts of the area around the rectangle.
use Prim.Native.Nat.{ℕ, ◌+◌, ◌-◌, ◌≤◌}
use mathlib.Core.Path.{◌≡◌}
use native.Mathlib.Omega.{arith}
use mir.Syntax.{w16}
use mir.Val.{Fits}
use Rattle.num.specs.Held.{held}
use Rattle.layout.specs.declared.Rect.{Rect}
use Rattle.buffer.specs.declared.Screen.{Screen}
use Rattle.buffer.specs.PartsExtra.{OnScreen}
use Rattle.paint_outside.specs.AroundExtra.{rect_between, above, below, left_of, right_from}

-- a range stored as start and size, whose bounds are at most `most`, ends by `most`
span_ends_by : (first end most : ℕ) → first ≤ most → end ≤ most → held (first + (end - first)) ≤ most
span_ends_by first end most p q = omega arith

-- a rectangle between columns and rows of the screen lies on the screen
between_on_screen : (s : Screen) (n m left top right bottom : ℕ) (area : Rect) → OnScreen s n area → m ≡ n
    → left ≤ s.columns → top ≤ s.rows → right ≤ s.columns → bottom ≤ s.rows → OnScreen s m (rect_between left top right bottom)
between_on_screen s n m left top right bottom area on same p q t u =
    record {
      columns = on.columns;
      size = omega (arith, on.size);
      right = span_ends_by left right s.columns p t;
      bottom = span_ends_by top bottom s.rows q u;
    }

-- n is the count of cells at the start of the function, m the count now, which is equal
module _ (s : Screen) (n m : ℕ) (area spared r : Rect) where
  pub above-on_screen : r ≡ above area spared → OnScreen s n area → OnScreen s n spared → m ≡ n → Fits w16 area.x → Fits w16 area.y → OnScreen s m r
  unfolding above
  above-on_screen e on also same left top = rw e (between_on_screen s n m _ _ _ _ area on same (omega arith) (omega arith) (omega arith) (omega arith))

  pub below-on_screen : r ≡ below area spared → OnScreen s n area → OnScreen s n spared → m ≡ n → Fits w16 area.x → Fits w16 area.y → OnScreen s m r
  unfolding below
  below-on_screen e on also same left top = rw e (between_on_screen s n m _ _ _ _ area on same (omega arith) (omega arith) (omega arith) (omega arith))

  pub left_on_screen : r ≡ left_of area spared → OnScreen s n area → OnScreen s n spared → m ≡ n → Fits w16 area.x → Fits w16 area.y → Fits w16 spared.y
      → OnScreen s m r
  unfolding left_of
  left_on_screen e on also same left top upper =
      rw e (between_on_screen s n m _ _ _ _ area on same (omega arith) (omega arith) (omega arith) (omega arith))

  pub right_on_screen : r ≡ right_from area spared → OnScreen s n area → OnScreen s n spared → m ≡ n → Fits w16 area.x → Fits w16 area.y → Fits w16 spared.y
      → OnScreen s m r
  unfolding right_from
  right_on_screen e on also same left top upper =
      rw e (between_on_screen s n m _ _ _ _ area on same (omega arith) (omega arith) (omega arith) (omega arith))
