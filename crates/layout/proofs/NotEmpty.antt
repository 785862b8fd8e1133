-- A non-empty rectangle has a column and a row.
use Prim.Native.Nat.{◌<◌}
use mathlib.Core.Path.{◌≡◌}
use mathlib.Core.Bool.{false}
use mathlib.Mathlib.Data.Bool.Basic.{or-eq-false-eq-eq-false-and-eq-false}
use native.Mathlib.Omega.{arith}
use borrow.Author.Tests.{eqb-false}
use lib.Dec.{eqb}
use Rattle.layout.specs.declared.Rect.{Rect}
use Rattle.layout.specs.Rect.{is_empty}

pub not-empty : (r : Rect) → is_empty r ≡ false → (0 < r.width) × (0 < r.height)
not-empty r h =
    let sizes = (or-eq-false-eq-eq-false-and-eq-false (eqb r.width 0) (eqb r.height 0)).0 h in
    let wide : r.width ≡ 0 → ⊥ = eqb-false r.width 0 sizes.0 in
    let high : r.height ≡ 0 → ⊥ = eqb-false r.height 0 sizes.1 in
    (omega (arith, wide), omega (arith, high))
