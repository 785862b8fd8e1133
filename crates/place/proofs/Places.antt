-- The place of a glyph: one law for each path through `of_glyph`, and what each place says of start and width.
-- Theorems `counted_once`: a glyph of width above 0 is placed or clipped; `taken_inside`: no cell that a glyph takes is at the edge or
-- past it.
use Prim.Native.Nat.{ℕ, ◌+◌, ◌≤◌, ◌<◌}
use mathlib.Core.Path.{◌≡◌, refl}
use mathlib.Core.Bool.{not}
use native.Mathlib.Omega.{arith}
use borrow.Author.Tests.{eq-eqb, ne_eqb, le-leb, lt-leb, lt-ltb, le-ltb, eqb-true, eqb-false, leb-true, leb-false, ltb-true, ltb-false}
use lib.Dec.{eqb, leb, ltb}
use Rattle.text.proofs.Bools.{cond_cases}
use Rattle.place.specs.declared.Place.{Place}
use Rattle.place.specs.declared.Place.TheVariants.{ZeroWidth, Placed, Halved, Outside}
use Rattle.place.specs.Place.{place_of, counts_as_placed, counts_as_clipped, cells_taken}

module _ (edge start width : ℕ) where
  pub place_zero : width ≡ 0 → ZeroWidth ≡ place_of edge start width
  unfolding place_of
  place_zero e = simp (eq-eqb width 0 e)

  module _ (some : width ≡ 0 → ⊥) where
    pub place_placed : start + width ≤ edge → Placed ≡ place_of edge start width
    unfolding place_of
    place_placed h = simp (ne_eqb width 0 some, lt-leb edge start (omega (arith, some)), le-ltb edge (start + width) h)

    pub place_halved : edge < start + width → start < edge → Halved ≡ place_of edge start width
    unfolding place_of
    place_halved past h = simp (ne_eqb width 0 some, lt-leb edge start h, lt-ltb edge (start + width) past)

    pub place_outside : edge ≤ start → Outside ≡ place_of edge start width
    unfolding place_of
    place_outside h = simp (ne_eqb width 0 some, le-leb edge start h)

pub ruleset places = (place_zero, place_placed, place_halved, place_outside)

-- case analysis over the four places
pub by_place : (edge start width : ℕ) (P : Place → Type 0)
    → (width ≡ 0 → P ZeroWidth)
    → ((width ≡ 0 → ⊥) → edge ≤ start → P Outside)
    → ((width ≡ 0 → ⊥) → start < edge → edge < start + width → P Halved)
    → ((width ≡ 0 → ⊥) → start < edge → start + width ≤ edge → P Placed)
    → P (place_of edge start width)
unfolding place_of
by_place edge start width P zero outside halved placed =
    cond_cases P (eqb width 0) _ _
    (λ e. zero (eqb-true width 0 e))
    (λ e.
    cond_cases P (leb edge start) _ _
    (λ f. outside (eqb-false width 0 e) (leb-true edge start f))
    (λ f.
    cond_cases P (ltb edge (start + width)) _ _
    (λ g. halved (eqb-false width 0 e) (leb-false edge start f) (ltb-true edge (start + width) g))
    (λ g. placed (eqb-false width 0 e) (leb-false edge start f) (ltb-false edge (start + width) g))))

-- a glyph of width above 0 counts as placed or as clipped, never both
pub counted_once : (edge start width : ℕ) → (width ≡ 0 → ⊥)
    → counts_as_clipped (place_of edge start width) ≡ not (counts_as_placed (place_of edge start width))
counted_once edge start width some =
    by_place edge start width (λ p. counts_as_clipped p ≡ not (counts_as_placed p)) (λ none. absurd (some none)) (λ _ _. refl) (λ _ _ _. refl) (λ _ _ _. refl)

-- no glyph takes a cell at the edge or past it
pub taken_inside : (edge start width k : ℕ) → k < cells_taken (place_of edge start width) width → start + k < edge
taken_inside edge start width k =
    by_place edge start width (λ p. k < cells_taken p width → start + k < edge)
    (λ _ h. absurd (omega arith))
    (λ _ _ h. absurd (omega arith))
    (λ _ inside _ h. omega arith)
    (λ _ _ ends h. omega arith)
