-- A glyph that ends within the area is placed, unless its width is 0, and never clipped.
use Prim.Native.Nat.{ℕ, ◌+◌, ◌≤◌, ◌<◌}
use mathlib.Core.Path.{◌≡◌, refl, sym, ap}
use mathlib.Core.Bool.{true, false}
use native.Mathlib.Omega.{arith}
use borrow.Author.Tests.{lt-ltb, le-ltb}
use lib.Dec.{ltb}
use Rattle.text.specs.Line.{Start}
use Rattle.place.specs.declared.Place.{Place}
use Rattle.place.specs.declared.Place.TheVariants.{Placed}
use Rattle.place.specs.Place.{place_of, counts_as_placed, counts_as_clipped}
use Rattle.place.proofs.Places.{place_placed, by_place}
use Rattle.line_composer.specs.Places.{place_in, is_placed}

module _ (area : ℕ) (s : Start) (some : 0 < s.glyph.width) (fits : s.start + s.glyph.width ≤ area) where
  pub placed-there : place_in area s ≡ Placed
  placed-there = sym (place_placed area s.start s.glyph.width (λ e. omega arith) fits)

  pub is-placed : is_placed area s ≡ true
  unfolding is_placed
  is-placed = ap counts_as_placed placed-there

pub within-area : (area start width : ℕ) → start + width ≤ area
    → (counts_as_placed (place_of area start width) ≡ ltb 0 width) × (counts_as_clipped (place_of area start width) ≡ false)
within-area area start width fits =
    by_place area start width (λ (p : Place). (counts_as_placed p ≡ ltb 0 width) × (counts_as_clipped p ≡ false))
    (λ none. (sym (le-ltb 0 width (omega arith)), refl))
    (λ some outside. absurd (omega (arith, some)))
    (λ _ _ past. absurd (omega arith))
    (λ some _ _. (sym (lt-ltb 0 width (omega (arith, some))), refl))
