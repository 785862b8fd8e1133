-- The glyphs of a line drawn from column 0, and from its start column: columns, starts and the end shift together.
use Prim.Native.Nat.compare
use Prim.Native.Nat.{ℕ, zero, suc, compare, ◌+◌, ◌-◌, ◌≤◌, ◌<◌}
use mathlib.Core.Path.{◌≡◌, refl, sym, ap, ◌∙◌}
use mathlib.Core.Bool.{Bool, true, false, cond, and-false}
use mathlib.Core.Logic.{◌⊎◌, inl, inr, dite}
use mathlib.Core.List.{List, [], ◌∷◌}
use native.Mathlib.Decide.{dec_lt}
use native.Mathlib.Nat.{add_assoc, add-suc, add-zero, suc-add, zero-add}
use native.Mathlib.Omega.{arith}
use borrow.Author.Tests.{le-leb, ne_eqb}
use lib.Dec.{eqb, ltb}
use Rattle.text.specs.Line.{Glyph, Start, starts_from}
use Rattle.buffer.specs.PartsExtra.{windowed}
use Rattle.buffer.proofs.Within.{within-inside, within-before}
use Rattle.title_glyphs.specs.TitleGlyphs.{is_drawn, title_glyph_on, until_overrun, title_glyphs_on}

-- comparing two numbers shifted by the same amount
compare_moved : (a m n : ℕ) → compare (a + m) (a + n) ≡ compare m n
compare_moved zero m n = simp zero-add
compare_moved (suc a) m n = simp (suc-add, compare.suc-suc) (compare_moved a m n)

eqb_moved : (a m n : ℕ) → eqb (a + m) (a + n) ≡ eqb m n
eqb_moved a m n = rw (compare_moved a m n)

ltb_moved : (a m n : ℕ) → ltb (a + m) (a + n) ≡ ltb m n
ltb_moved a m n = rw (← add-suc, compare_moved a (suc m) n)

abbrev from : ℕ → Glyph → Start
from column g = record { start = column; glyph = g }

module _ (styles : List ℕ) where
  -- if no column is hidden, a glyph shifts with its line
  glyph-moved : (a column : ℕ) (g : Glyph) (i cell : ℕ) → title_glyph_on styles 0 (from (a + column) g) (a + i) cell ≡ title_glyph_on styles 0 (from column g) i cell
  unfolding title_glyph_on is_drawn
  glyph-moved a column g i cell =
      rw (zero-add (a + i), zero-add i, eqb_moved a i column, le-leb 0 (a + column) (omega arith), le-leb 0 column (omega arith))

  glyphs-moved : (a end column : ℕ) (gs : List Glyph) (i cell : ℕ)
      → title_glyphs_on styles 0 (until_overrun (a + end) (starts_from (a + column) gs)) (a + i) cell ≡ title_glyphs_on styles 0 (until_overrun end (starts_from column gs)) i cell
  glyphs-moved a end column [] i cell = refl
  glyphs-moved a end column (g ∷ gs) i cell =
      go (ltb (a + end) (a + column + g.width)) (ltb end (column + g.width)) (rw (add_assoc a column g.width) (ltb_moved a end (column + g.width)))
      (λ c. rw (add_assoc a column g.width) (glyphs-moved a end (column + g.width) gs i c)) (glyph-moved a column g i cell)
    where
      go : (over over-moved : Bool) → over ≡ over-moved
          → ((c : ℕ) → title_glyphs_on styles 0 (until_overrun (a + end) (starts_from (a + column + g.width) gs)) (a + i) c
          ≡ title_glyphs_on styles 0 (until_overrun end (starts_from (column + g.width) gs)) i c)
          → title_glyph_on styles 0 (from (a + column) g) (a + i) cell ≡ title_glyph_on styles 0 (from column g) i cell
          → title_glyphs_on styles 0 (cond over [] (from (a + column) g ∷ until_overrun (a + end) (starts_from (a + column + g.width) gs))) (a + i) cell
          ≡ title_glyphs_on styles 0 (cond over-moved [] (from column g ∷ until_overrun end (starts_from (column + g.width) gs))) i cell
      go true true e others first = refl
      go false false e others first = others _ ∙ ap (title_glyphs_on styles 0 (until_overrun end (starts_from (column + g.width) gs)) i) first
      go true false e others first = absurd (let z : ◌≡◌ {A = ℕ} 0 1 = cc in omega arith)
      go false true e others first = absurd (let z : ◌≡◌ {A = ℕ} 0 1 = cc in omega arith)

  -- no cell before the first glyph changes
  glyph-before : (column : ℕ) (g : Glyph) (i cell : ℕ) → i < column → title_glyph_on styles 0 (from column g) i cell ≡ cell
  unfolding title_glyph_on
  glyph-before column g i cell h =
      let other : eqb (0 + i) column ≡ false = ne_eqb (0 + i) column (λ e. omega arith) in
      simp (other, and-false)

  glyphs-before : (end column : ℕ) (gs : List Glyph) (i cell : ℕ) → i < column → title_glyphs_on styles 0 (until_overrun end (starts_from column gs)) i cell ≡ cell
  glyphs-before end column [] i cell h = refl
  glyphs-before end column (g ∷ gs) i cell h =
      go (ltb end (column + g.width)) (λ c. glyphs-before end (column + g.width) gs i c (omega arith)) (glyph-before column g i cell h)
    where
      go : (b : Bool) → ((c : ℕ) → title_glyphs_on styles 0 (until_overrun end (starts_from (column + g.width) gs)) i c ≡ c)
          → title_glyph_on styles 0 (from column g) i cell ≡ cell
          → title_glyphs_on styles 0 (cond b [] (from column g ∷ until_overrun end (starts_from (column + g.width) gs))) i cell ≡ cell
      go true others first = refl
      go false others first = others _ ∙ first

  -- drawing on the slice from the start column of a row of w cells; a line hides no column or starts in the first
  module _ (gs : List Glyph) (w i cell : ℕ) (inside : i < w) where
    abbrev SliceDrawsLine : ℕ → ℕ → Type 0
    SliceDrawsLine hidden start =
        windowed start w (title_glyphs_on styles hidden (until_overrun (hidden + (w - start)) (starts_from 0 gs))) i cell
        ≡ title_glyphs_on styles hidden (until_overrun (hidden + w) (starts_from start gs)) i cell

    none_hidden : (start : ℕ) → start ≤ w → SliceDrawsLine 0 start
    none_hidden start low =
        dite (dec_lt i start)
        (λ (p : i < start). simp (within-before start w i p) (sym (glyphs-before (0 + w) start gs i cell p)))
        (λ n.
        let e : start + (i - start) ≡ i = omega (arith, n) in
        let f : start + (w - start) ≡ w = omega arith in
        let from_start : start ≤ i = omega (arith, n) in
        simp (within-inside start w i from_start inside, zero-add)
        (rw (add-zero start, e, f) at (sym (glyphs-moved start (w - start) 0 gs (i - start) cell))))

    from_first : (hidden : ℕ) → SliceDrawsLine hidden 0
    from_first hidden =
        let e : i - 0 ≡ i = omega arith in
        let f : w - 0 ≡ w = omega arith in
        simp (within-inside 0 w i (omega arith) inside, e, f)

    pub line-moved : (hidden start : ℕ) → (hidden ≡ 0) ⊎ (start ≡ 0) → start ≤ w → SliceDrawsLine hidden start
    line-moved hidden start (inl e) low = rw e (none_hidden start low)
    line-moved hidden start (inr e) low = rw e (from_first hidden)
