-- Rectangles within a screen: its whole area, and its non-empty intersection with a rectangle.
use Prim.Native.Nat.{ℕ, ◌+◌, ◌-◌, ◌*◌, ◌<◌, ◌≤◌, min}
use mathlib.Core.Path.{◌≡◌}
use mathlib.Core.Bool.{false}
use mathlib.Mathlib.Data.Bool.Basic.{or-eq-false-eq-eq-false-and-eq-false}
use native.Mathlib.Omega.{arith}
use borrow.Author.Tests.{eqb-false}
use lib.Dec.{eqb}
use Rattle.layout.specs.declared.Rect.{Rect}
use Rattle.layout.specs.Rect.{right_of, bottom_of, meet, is_empty}
use Rattle.buffer.specs.declared.Screen.{Screen}
use Rattle.buffer.specs.Drawing.{area_of}
use Rattle.buffer.specs.PartsExtra.{OnScreen}

-- the right or bottom edge of a non-empty meeting is within the screen
edge-within : (first end most : ℕ) → (min end (min (0 + most) 65535) - first ≡ 0 → ⊥) → min (first + (min end (min (0 + most) 65535) - first)) 65535 ≤ most
edge-within first end most h = omega arith

module _ (s : Screen) (n : ℕ) (r : Rect) (some : 0 < s.columns) (size : s.rows * s.columns ≤ n) where
  pub all-on_screen : r ≡ area_of s → OnScreen s n r
  all-on_screen e = rw e (record { columns = some; size = size; right = omega arith; bottom = omega arith })

  pub meeting_on_screen : (area : Rect) → r ≡ meet area (area_of s) → is_empty r ≡ false → OnScreen s n r
  meeting_on_screen area e h =
      let m : Rect = meet area (area_of s) in
      let sides : (eqb m.width 0 ≡ false) × (eqb m.height 0 ≡ false) = (or-eq-false-eq-eq-false-and-eq-false _ _).0 (rw e at h) in
      rw e (
      record {
        columns = some;
        size = size;
        right = edge-within m.x (right_of area) s.columns (eqb-false m.width 0 sides.0);
        bottom = edge-within m.y (bottom_of area) s.rows (eqb-false m.height 0 sides.1);
      })

pub ruleset on_screen = (all-on_screen, meeting_on_screen)
