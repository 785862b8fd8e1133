-- One glyph of a title on its row: one law for each path through the code.
use Prim.Native.Nat.{ℕ, ◌+◌, ◌-◌, ◌≤◌, ◌<◌}
use mathlib.Core.Path.{◌≡◌, refl, sym, ◌∙◌}
use mathlib.Core.Bool.{Bool, true, false, cond, and-false}
use mathlib.Core.List.{List}
use native.Mathlib.Omega.{arith}
use borrow.Author.Tests.{eq-eqb, ne_eqb, eqb-true, eqb-false, lt-ltb, le-ltb, le-leb, lt-leb}
use lib.Dec.{eqb}
use lib.ListN.{get_or, set}
use Rattle.text.specs.declared.AmbiguousWidth.{AmbiguousWidth}
use Rattle.text.specs.Record.{symbol_of, width_of, style_of}
use Rattle.text.specs.Line.{Start, glyph_from}
use Rattle.buffer.specs.declared.Ink.TheVariants.{Both}
use Rattle.buffer.specs.Drawing.{changed, style_at}
use Rattle.buffer.specs.InkExtra.{inked}
use Rattle.buffer.proofs.Changed.{changed-same, changed-none, changed-one}
use Rattle.title_glyphs.specs.TitleGlyphs.{is_drawn, title_glyph_on}

-- the glyph of a record, with its number and start column
abbrev pub start_of : AmbiguousWidth → ℕ → ℕ → ℕ → Start
start_of a number column word = record { start = column; glyph = glyph_from a number word }

-- drawing doesn't read a glyph's number
pub number_unread : (a : AmbiguousWidth) (styles : List ℕ) (hidden number column word i cell : ℕ)
    → title_glyph_on styles hidden (start_of a number column word) i cell ≡ title_glyph_on styles hidden (start_of a 0 column word) i cell
unfolding title_glyph_on is_drawn
number_unread a styles hidden number column word i cell = refl

-- the start column, counted without and with the hidden columns
column_shift : (hidden column i : ℕ) → hidden ≤ column → eqb i (column - hidden) ≡ eqb (hidden + i) column
column_shift hidden column i h = go (eqb i (column - hidden)) refl
  where
    go : (b : Bool) → eqb i (column - hidden) ≡ b → eqb i (column - hidden) ≡ eqb (hidden + i) column
    go true e =
        let k : i ≡ column - hidden = eqb-true i (column - hidden) e in
        e ∙ sym (eq-eqb (hidden + i) column (omega arith))
    go false e = e ∙ sym (ne_eqb (hidden + i) column (λ k. eqb-false i (column - hidden) e (omega arith)))

module _ (a : AmbiguousWidth) (styles : List ℕ) (hidden column word : ℕ) (row : List ℕ) where
  abbrev Drew : List ℕ → Type 0
  Drew next = next ≡ changed (title_glyph_on styles hidden (start_of a 0 column word)) row

  not-drawn : ((i cell : ℕ) → title_glyph_on styles hidden (start_of a 0 column word) i cell ≡ cell) → Drew row
  not-drawn h = sym (changed-same _ (λ i cell. cell) row (λ i cell _. h i cell) ∙ changed-none row)

  -- a glyph that starts in hidden columns isn't drawn
  pub glyph-hidden : column < hidden → Drew row
  unfolding title_glyph_on is_drawn
  glyph-hidden h = not-drawn (λ i cell. simp (lt-leb hidden column h))

  module _ (width : ℕ) (e : width ≡ width_of a word) where
    -- a glyph of width 0 isn't drawn
    pub glyph_zero : width ≡ 0 → Drew row
    unfolding title_glyph_on is_drawn
    glyph_zero h =
        let z : width_of a word ≤ 0 = omega arith in
        not-drawn (λ i cell. simp (le-ltb 0 (width_of a word) z, and-false))

    -- any other glyph is drawn in its first cell
    pub glyph-drawn : (number style symbol cell : ℕ) → hidden ≤ column → (width ≡ 0 → ⊥) → number ≡ style_of word → style ≡ style_at styles number
        → symbol ≡ symbol_of word → cell ≡ inked (Both symbol style) (get_or row (column - hidden) 0) → Drew (set row (column - hidden) cell)
    unfolding title_glyph_on is_drawn inked
    glyph-drawn number style symbol cell h n p q r s =
        let some : 0 < width_of a word = omega (arith, n) in
        let ink : ℕ → ℕ = inked (Both (symbol_of word) (style_at styles (style_of word))) in
        rw (s, q, p, r) (changed-one ink (column - hidden) row)
        ∙ changed-same (λ i c. cond (eqb i (column - hidden)) (ink c) c) _ row
        (λ i c _. simp (column_shift hidden column i h, le-leb hidden column h, lt-ltb 0 (width_of a word) some))

pub ruleset one_glyph = (glyph-hidden, glyph_zero, glyph-drawn)
