-- Glyphs drawn from column 0 and from a line's start column: columns, starts and the right edge shift together.
use Prim.Native.Nat.compare
use Prim.Native.Nat.{ℕ, zero, suc, compare, ◌+◌, ◌<◌}
use mathlib.Core.Path.{◌≡◌, refl, ap, ◌∙◌}
use mathlib.Core.Bool.{Bool, true, false, cond}
use mathlib.Core.List.{List, [], ◌∷◌}
use native.Mathlib.Nat.{add_assoc, add-suc, suc-add, zero-add}
use native.Mathlib.Omega.{arith}
use borrow.Author.Tests.{ne_eqb}
use lib.Dec.{eqb, leb, ltb}
use Rattle.text.specs.declared.AmbiguousWidth.{AmbiguousWidth}
use Rattle.text.specs.Record.{width_of}
use Rattle.text.specs.Line.{Glyph, Start, glyph_from, numbered, starts_from}
use Rattle.text.specs.Lists.{count_of}
use Rattle.wrapping.specs.declared.Rule.{Rule}
use Rattle.wrapping.specs.Wrapping.{is_over_wide, not_over_wide}
use Rattle.place.specs.Place.{place_of, counts_as_placed, counts_as_clipped}
use Rattle.line_composer.specs.Places.{is_placed, is_clipped}
use Rattle.render_glyphs.specs.RenderGlyphs.{glyph_on, glyphs_on}
use Rattle.render_glyphs.proofs.OneGlyph.{start_of}

-- induction over the glyphs of the same records at two places: the record numbers may differ, and the first list starts a columns
-- further right
along : (a : ℕ) (u : Rule) (P : List Start → List Start → Type 0) → P [] []
    → ((m n column word : ℕ) (ss ts : List Start) → P ss ts → P (start_of u.ambiguous m (a + column) word ∷ ss) (start_of u.ambiguous n column word ∷ ts))
    → (m n column : ℕ) (records : List ℕ)
    → P (starts_from (a + column) (not_over_wide u (numbered u.ambiguous m records))) (starts_from column (not_over_wide u (numbered u.ambiguous n records)))
unfolding is_over_wide
along a u P none more m n column [] = none
along a u P none more m n column (r ∷ rs) =
    go (ltb u.limit (width_of u.ambiguous r)) (λ c. along a u P none more (suc m) (suc n) c rs)
  where
    Holds : ℕ → List Glyph → List Glyph → Type 0
    Holds c gs hs = P (starts_from (a + c) gs) (starts_from c hs)

    go : (b : Bool) → ((c : ℕ) → Holds c (not_over_wide u (numbered u.ambiguous (suc m) rs)) (not_over_wide u (numbered u.ambiguous (suc n) rs)))
        → Holds column (cond b (not_over_wide u (numbered u.ambiguous (suc m) rs)) (glyph_from u.ambiguous m r ∷ not_over_wide u (numbered u.ambiguous (suc m) rs)))
        (cond b (not_over_wide u (numbered u.ambiguous (suc n) rs)) (glyph_from u.ambiguous n r ∷ not_over_wide u (numbered u.ambiguous (suc n) rs)))
    go true others = others column
    go false others = more m n column r _ _ (rw add_assoc (others (column + width_of u.ambiguous r)))

-- comparisons are unchanged if both sides are shifted
compare_moved : (a m n : ℕ) → compare (a + m) (a + n) ≡ compare m n
compare_moved zero m n = simp zero-add
compare_moved (suc a) m n = simp (suc-add, compare.suc-suc) (compare_moved a m n)

leb_moved : (a m n : ℕ) → leb (a + m) (a + n) ≡ leb m n
leb_moved a m n = rw (compare_moved a m n)

eqb_moved : (a m n : ℕ) → eqb (a + m) (a + n) ≡ eqb m n
eqb_moved a m n = rw (compare_moved a m n)

-- and so is a glyph's place
place_moved : (a area column width : ℕ) → place_of (a + area) (a + column) width ≡ place_of area column width
unfolding place_of
place_moved a area column width = rw (add_assoc, leb_moved a area column, ← add-suc, leb_moved a (suc area) (column + width))

module _ (k : AmbiguousWidth) (a area m n column word : ℕ) where
  placed-moved : is_placed (a + area) (start_of k m (a + column) word) ≡ is_placed area (start_of k n column word)
  unfolding is_placed
  placed-moved = ap counts_as_placed (place_moved a area column (width_of k word))

  clipped-moved : is_clipped (a + area) (start_of k m (a + column) word) ≡ is_clipped area (start_of k n column word)
  unfolding is_clipped
  clipped-moved = ap counts_as_clipped (place_moved a area column (width_of k word))

  glyph-moved : (styles : List ℕ) (style i cell : ℕ)
      → glyph_on styles style (a + area) (start_of k m (a + column) word) (a + i) cell ≡ glyph_on styles style area (start_of k n column word) i cell
  unfolding glyph_on
  glyph-moved styles style i cell = rw (place_moved a area column (width_of k word), eqb_moved a i column)

module _ (a area : ℕ) (u : Rule) (m n column : ℕ) (records : List ℕ) where
  abbrev moved : List Start
  moved = starts_from (a + column) (not_over_wide u (numbered u.ambiguous m records))

  abbrev unmoved : List Start
  unmoved = starts_from column (not_over_wide u (numbered u.ambiguous n records))

  pub placed_same : count_of (is_placed (a + area)) moved ≡ count_of (is_placed area) unmoved
  placed_same =
      along a u (λ ss ts. count_of (is_placed (a + area)) ss ≡ count_of (is_placed area) ts) refl
      (λ m n c word ss ts e. rw (placed-moved u.ambiguous a area m n c word, e)) m n column records

  pub clipped-same : count_of (is_clipped (a + area)) moved ≡ count_of (is_clipped area) unmoved
  clipped-same =
      along a u (λ ss ts. count_of (is_clipped (a + area)) ss ≡ count_of (is_clipped area) ts) refl
      (λ m n c word ss ts e. rw (clipped-moved u.ambiguous a area m n c word, e)) m n column records

  pub glyphs-same : (styles : List ℕ) (style i cell : ℕ) → glyphs_on styles style (a + area) moved (a + i) cell ≡ glyphs_on styles style area unmoved i cell
  glyphs-same styles style i cell =
      along a u (λ ss ts. (cell : ℕ) → glyphs_on styles style (a + area) ss (a + i) cell ≡ glyphs_on styles style area ts i cell) (λ _. refl)
      (λ m n c word ss ts e cell. rw (glyph-moved u.ambiguous a area m n c word styles style i cell) (e _)) m n column records cell

-- no glyph changes a cell before the first
pub glyphs-before : (styles : List ℕ) (style area column : ℕ) (gs : List Glyph) (i cell : ℕ) → i < column
    → glyphs_on styles style area (starts_from column gs) i cell ≡ cell
unfolding glyph_on
glyphs-before styles style area column [] i cell h = refl
glyphs-before styles style area column (g ∷ gs) i cell h =
    let other : eqb i column ≡ false = ne_eqb i column (λ e. omega arith) in
    glyphs-before styles style area (column + g.width) gs i _ (omega arith) ∙ simp other
