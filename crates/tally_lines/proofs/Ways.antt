-- An emitted glyph is exactly one of zero-width, placed and clipped.
use Prim.Native.Nat.{ℕ, ◌+◌}
use mathlib.Core.Path.{◌≡◌, refl, ap}
use mathlib.Core.Bool.{Bool, true, false}
use mathlib.Core.List.{List, [], ◌∷◌}
use native.Mathlib.Omega.{arith}
use borrow.Author.Tests.{eq-eqb, ne_eqb}
use lib.ListN.{length}
use Rattle.text.specs.Lists.{count_of}
use Rattle.text.specs.Line.{Start}
use Rattle.place.specs.declared.Place.{Place}
use Rattle.place.specs.declared.Place.TheVariants.{ZeroWidth, Placed, Halved, Outside}
use Rattle.place.specs.Place.{counts_as_placed, counts_as_clipped}
use Rattle.place.proofs.Places.{by_place}
use Rattle.line_composer.specs.Places.{place_in, is_placed, is_clipped, is_zero_width}

-- the place of a glyph, and the results of the three tests on it
pub record Becomes (limit : ℕ) (s : Start) (place : Place) (zero-width is-placed is-clipped : Bool) : Type 0 where
  pub of_place : place_in limit s ≡ place
  pub of_zero_width : is_zero_width s ≡ zero-width
  pub of_placed : is_placed limit s ≡ is-placed
  pub of_clipped : is_clipped limit s ≡ is-clipped

module _ (limit : ℕ) (s : Start) where
  becomes : (place : Place) (zero-width : Bool) → is_zero_width s ≡ zero-width → place_in limit s ≡ place
      → Becomes limit s place zero-width (counts_as_placed place) (counts_as_clipped place)
  unfolding is_placed is_clipped
  becomes place zero-width z e = record { of_place = e; of_zero_width = z; of_placed = ap counts_as_placed e; of_clipped = ap counts_as_clipped e }

  is_zero : s.glyph.width ≡ 0 → is_zero_width s ≡ true
  unfolding is_zero_width
  is_zero e = eq-eqb s.glyph.width 0 e

  not_zero : (s.glyph.width ≡ 0 → ⊥) → is_zero_width s ≡ false
  unfolding is_zero_width
  not_zero n = ne_eqb s.glyph.width 0 n

  -- case analysis over the kinds
  pub ways : (P : Type 0)
      → (Becomes limit s ZeroWidth true false false → P)
      → (Becomes limit s Placed false true false → P)
      → (Becomes limit s Halved false false true → P)
      → (Becomes limit s Outside false false true → P)
      → P
  ways P zero in-front halved outside =
      by_place limit s.start s.glyph.width (λ p. place_in limit s ≡ p → P)
      (λ z e. zero (becomes ZeroWidth true (is_zero z) e))
      (λ n _ e. outside (becomes Outside false (not_zero n) e))
      (λ n _ _ e. halved (becomes Halved false (not_zero n) e))
      (λ n _ _ e. in-front (becomes Placed false (not_zero n) e))
      refl

-- the three counts add up to the number of glyphs
pub all_counted : (limit : ℕ) (ss : List Start) → count_of (is_placed limit) ss + count_of (is_clipped limit) ss + count_of is_zero_width ss ≡ length ss
all_counted limit [] = omega arith
all_counted limit (s ∷ ss) =
    let later = all_counted limit ss in
    ways limit s _
    (λ b. simp (b.of_zero_width, b.of_placed, b.of_clipped) (omega arith))
    (λ b. simp (b.of_zero_width, b.of_placed, b.of_clipped) (omega arith))
    (λ b. simp (b.of_zero_width, b.of_placed, b.of_clipped) (omega arith))
    (λ b. simp (b.of_zero_width, b.of_placed, b.of_clipped) (omega arith))
