-- Unpacking a packed record gives its fields back.
use Prim.Native.Nat.{ℕ, ◌+◌, ◌*◌, ◌/◌, ◌%◌, ◌^◌, ◌<◌}
use mathlib.Core.Path.{◌≡◌}
use mathlib.Core.Bool.{Bool, true, false, cond}
use native.Mathlib.Omega.{arith}
use borrow.Author.Tests.{eq-eqb, ne_eqb}
use lib.Dec.{eqb}
use Rattle.text.specs.declared.AmbiguousWidth.{AmbiguousWidth}
use Rattle.text.specs.Record.{is_head, symbol_of, width_code_of, read_width, whitespace_of, style_of, glyph_record, alignment_of, position_of, zeros_of, head_record}
use Rattle.text.specs.Line.{glyph_from}
use Rattle.text.proofs.Bools.{bit_small}

-- space is the whitespace bit
module _ (symbol width space style : ℕ) (s : symbol < 2 ^ 21) (w : width < 2 ^ 3) (b : space < 2) (t : style < 2 ^ 6) where
  abbrev word : ℕ
  word = symbol * 2 ^ 10 + width * 2 ^ 7 + space * 2 ^ 6 + style

  not-head : is_head word ≡ false
  not-head = ne_eqb (word / 2 ^ 31) 1 (λ (e : word / 2 ^ 31 ≡ 1). omega arith)

  symbol_back : symbol_of word ≡ symbol
  symbol_back = let q : word / 2 ^ 10 ≡ symbol = omega arith in omega arith

  width_back : width_code_of word ≡ width
  width_back = let q : word / 2 ^ 7 ≡ symbol * 2 ^ 3 + width = omega arith in omega arith

  space_back : word / 2 ^ 6 % 2 ≡ space
  space_back = let q : word / 2 ^ 6 ≡ symbol * 2 ^ 4 + width * 2 + space = omega arith in omega arith

  style_back : style_of word ≡ style
  style_back = omega arith

-- the fields of a glyph
module _ (symbol width : ℕ) (whitespace : Bool) (style : ℕ) (s : symbol < 2 ^ 21) (w : width < 2 ^ 3) (t : style < 2 ^ 6) where
  read_bit : (on : Bool) (bit : ℕ) → bit ≡ cond on 1 0 → eqb bit 1 ≡ on
  read_bit true bit e = rw e
  read_bit false bit e = rw e

  pub glyph-is_no_head : is_head (glyph_record symbol width whitespace style) ≡ false
  glyph-is_no_head = not-head symbol width (cond whitespace 1 0) style s w (bit_small whitespace) t

  pub glyph-symbol : symbol_of (glyph_record symbol width whitespace style) ≡ symbol
  glyph-symbol = symbol_back symbol width (cond whitespace 1 0) style s w (bit_small whitespace) t

  pub glyph-width : width_code_of (glyph_record symbol width whitespace style) ≡ width
  glyph-width = width_back symbol width (cond whitespace 1 0) style s w (bit_small whitespace) t

  pub glyph-whitespace : whitespace_of (glyph_record symbol width whitespace style) ≡ whitespace
  glyph-whitespace = read_bit whitespace _ (space_back symbol width (cond whitespace 1 0) style s w (bit_small whitespace) t)

  pub glyph-style : style_of (glyph_record symbol width whitespace style) ≡ style
  glyph-style = style_back symbol width (cond whitespace 1 0) style s w (bit_small whitespace) t

  -- all fields at once
  pub glyph_fields : (a : AmbiguousWidth) (number : ℕ)
      → glyph_from a number (glyph_record symbol width whitespace style) ≡ record { number = number; symbol = symbol; width = read_width a width; whitespace = whitespace; style = style }
  glyph_fields a number = rw (glyph-symbol, glyph-width, glyph-whitespace, glyph-style)

-- the fields of a head, its 27 zeros 0
module _ (alignment position : ℕ) (a : alignment < 2 ^ 2) (p : position < 2 ^ 2) where
  pub head-is-head : is_head (head_record alignment position) ≡ true
  head-is-head = eq-eqb (head_record alignment position / 2 ^ 31) 1 (omega arith)

  pub head-alignment : alignment_of (head_record alignment position) ≡ alignment
  head-alignment = let q : head_record alignment position / 2 ^ 29 ≡ 2 ^ 2 + alignment = omega arith in omega arith

  pub head_position : position_of (head_record alignment position) ≡ position
  head_position = let q : head_record alignment position / 2 ^ 27 ≡ 2 ^ 4 + alignment * 2 ^ 2 + position = omega arith in omega arith

  pub head-zeros : zeros_of (head_record alignment position) ≡ 0
  head-zeros = omega arith
