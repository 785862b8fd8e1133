-- A record with its code 7 replaced: a head is unchanged, and a glyph is read by any setting as the old one is by the setting that
-- replaced its code.
use Prim.Native.Nat.{ℕ, ◌^◌, ◌<◌}
use mathlib.Core.Path.{◌≡◌, refl, ap, ◌∙◌}
use mathlib.Core.Bool.{Bool, true, false}
use native.Mathlib.Omega.{arith}
use lib.Dec.{eqb}
use Rattle.text.specs.declared.AmbiguousWidth.{AmbiguousWidth}
use Rattle.text.specs.declared.AmbiguousWidth.TheVariants.{Narrow, Wide}
use Rattle.text.specs.Record.{is_head, symbol_of, width_code_of, ambiguous_cells, read_width, whitespace_of, style_of, glyph_record}
use Rattle.text.specs.Line.{glyph_from}
use Rattle.text.proofs.Bools.{cases}
use Rattle.text.proofs.Fields.{glyph-is_no_head, glyph-style, glyph_fields}
use Rattle.ambiguous_resolved.specs.Replaced.{code_replaced}

-- the codes that replace the 7 are read as themselves
cells-read : (a b : AmbiguousWidth) → read_width b (ambiguous_cells a) ≡ ambiguous_cells a
unfolding read_width
cells-read Narrow b = refl
cells-read Wide b = refl

cells-small : (a : AmbiguousWidth) → ambiguous_cells a < 2 ^ 3
cells-small Narrow = omega arith
cells-small Wide = omega arith

module _ (a : AmbiguousWidth) (r : ℕ) where
  pub head-kept : is_head r ≡ true → code_replaced a r ≡ r
  unfolding code_replaced
  head-kept h = rw h

  -- a glyph of another code is unchanged, and the setting isn't read
  module _ (h : is_head r ≡ false) (other : eqb (width_code_of r) 7 ≡ false) where
    pub other_kept : code_replaced a r ≡ r
    unfolding code_replaced
    other_kept = rw (h, other)

    pub other_read : (b : AmbiguousWidth) (number : ℕ) → glyph_from b number r ≡ glyph_from a number r
    unfolding read_width
    other_read b number = rw other

  -- a glyph of code 7
  module _ (h : is_head r ≡ false) (seven : eqb (width_code_of r) 7 ≡ true) where
    abbrev new : ℕ
    new = glyph_record (symbol_of r) (ambiguous_cells a) (whitespace_of r) (style_of r)

    replaced_by : code_replaced a r ≡ new
    unfolding code_replaced
    replaced_by = rw (h, seven)

    pub seven_no_head : is_head (code_replaced a r) ≡ false
    seven_no_head = rw replaced_by (glyph-is_no_head (symbol_of r) (ambiguous_cells a) (whitespace_of r) (style_of r) (omega arith) (cells-small a) (omega arith))

    pub seven_style : style_of (code_replaced a r) ≡ style_of r
    seven_style = rw replaced_by (glyph-style (symbol_of r) (ambiguous_cells a) (whitespace_of r) (style_of r) (omega arith) (cells-small a) (omega arith))

    pub seven_read : (b : AmbiguousWidth) (number : ℕ) → glyph_from b number (code_replaced a r) ≡ glyph_from a number r
    unfolding read_width
    seven_read b number =
        ap (glyph_from b number) replaced_by
        ∙ glyph_fields (symbol_of r) (ambiguous_cells a) (whitespace_of r) (style_of r) (omega arith) (cells-small a) (omega arith) b number
        ∙ rw (cells-read a b, seven)

  pub same_head : is_head (code_replaced a r) ≡ is_head r
  same_head =
      cases (λ (x : Bool). is_head r ≡ x → is_head (code_replaced a r) ≡ x) (is_head r)
      (λ _ h. ap is_head (head-kept h) ∙ h)
      (λ _ h.
      cases (λ (x : Bool). eqb (width_code_of r) 7 ≡ x → is_head (code_replaced a r) ≡ false) (eqb (width_code_of r) 7)
      (λ _ seven. seven_no_head h seven)
      (λ _ other. ap is_head (other_kept h other) ∙ h)
      refl)
      refl

  module _ (h : is_head r ≡ false) where
    pub same-style : style_of (code_replaced a r) ≡ style_of r
    same-style =
        cases (λ (x : Bool). eqb (width_code_of r) 7 ≡ x → style_of (code_replaced a r) ≡ style_of r) (eqb (width_code_of r) 7)
        (λ _ seven. seven_style h seven)
        (λ _ other. ap style_of (other_kept h other))
        refl

    pub same-glyph : (b : AmbiguousWidth) (number : ℕ) → glyph_from b number (code_replaced a r) ≡ glyph_from a number r
    same-glyph b number =
        cases (λ (x : Bool). eqb (width_code_of r) 7 ≡ x → glyph_from b number (code_replaced a r) ≡ glyph_from a number r) (eqb (width_code_of r) 7)
        (λ _ seven. seven_read h seven b number)
        (λ _ other. ap (glyph_from b number) (other_kept h other) ∙ other_read h other b number)
        refl
