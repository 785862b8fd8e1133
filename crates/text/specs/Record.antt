-- Document 01, 'Packed fields': the fields of a 32-bit record, most significant bit first. Document 02, C-11: how its width is read.
use Rattle.std.specs.Prelude.{ℕ, ◌+◌, ◌*◌, ◌/◌, ◌%◌, ◌^◌, Bool, cond, eqb}
use Rattle.text.specs.declared.AmbiguousWidth.{AmbiguousWidth}
use Rattle.text.specs.declared.AmbiguousWidth.TheVariants.{Narrow, Wide}

-- the first bit: 0 in a glyph, 1 in a head
abbrev pub is_head : ℕ → Bool
is_head r = eqb (r / 2 ^ 31) 1

-- "Glyph, 32 bits: 0 | symbol 21 | width 3 | whitespace 1 | style 6."
abbrev pub symbol_of : ℕ → ℕ
symbol_of r = r / 2 ^ 10 % 2 ^ 21

abbrev pub width_code_of : ℕ → ℕ
width_code_of r = r / 2 ^ 7 % 2 ^ 3

abbrev pub whitespace_of : ℕ → Bool
whitespace_of r = eqb (r / 2 ^ 6 % 2) 1

abbrev pub style_of : ℕ → ℕ
style_of r = r % 2 ^ 6

-- C-11: "Width code 7 now means ambiguous, and each call that reads widths takes an enum setting, narrow (1) or wide (2)." "Code 7
-- meant seven cells before, and no panel has used it."
abbrev pub ambiguous_cells : AmbiguousWidth → ℕ
ambiguous_cells Narrow = 1
ambiguous_cells Wide = 2

-- the width that a code is read as: the code itself, unless it is 7
unfoldable pub read_width : AmbiguousWidth → ℕ → ℕ
read_width ambiguous code = cond (eqb code 7) (ambiguous_cells ambiguous) code

abbrev pub width_of : AmbiguousWidth → ℕ → ℕ
width_of ambiguous r = read_width ambiguous (width_code_of r)

-- the glyph with these fields
abbrev pub glyph_record : ℕ → ℕ → Bool → ℕ → ℕ
glyph_record symbol width whitespace style = symbol * 2 ^ 10 + width * 2 ^ 7 + cond whitespace 1 0 * 2 ^ 6 + style

-- "Head, 32 bits: 1 | alignment 2 (…) | position 2 | 27 zeros."
abbrev pub alignment_of : ℕ → ℕ
alignment_of r = r / 2 ^ 29 % 2 ^ 2

abbrev pub position_of : ℕ → ℕ
position_of r = r / 2 ^ 27 % 2 ^ 2

abbrev pub zeros_of : ℕ → ℕ
zeros_of r = r % 2 ^ 27

-- the head with these fields, zeros 0
abbrev pub head_record : ℕ → ℕ → ℕ
head_record alignment position = 2 ^ 31 + alignment * 2 ^ 29 + position * 2 ^ 27
