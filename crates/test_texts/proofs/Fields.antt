-- Fields of the records in test texts.
use Prim.Native.Nat.{ℕ, ◌%◌, ◌^◌, ◌<◌}
use mathlib.Core.Path.{◌≡◌}
use mathlib.Core.Bool.{Bool, true, false}
use native.Mathlib.Omega.{arith}
use Rattle.text.specs.Record.{is_head, alignment_of, position_of, zeros_of, head_record, width_code_of, whitespace_of, glyph_record}
use Rattle.text.proofs.Fields as fields

module _ (r a : ℕ) (h : a < 4) (e : r ≡ head_record a 0) where
  pub head-is-head : is_head r ≡ true
  head-is-head = rw e (fields.head-is-head a 0 h (omega arith))

  pub head-alignment : alignment_of r ≡ a
  head-alignment = rw e (fields.head-alignment a 0 h (omega arith))

  pub head_position : position_of r ≡ 0
  head_position = rw e (fields.head_position a 0 h (omega arith))

  pub head-zeros : zeros_of r ≡ 0
  head-zeros = rw e (fields.head-zeros a 0 h (omega arith))

pub ruleset head_fields = (head-is-head, head-alignment, head_position, head-zeros)

module _ (r x width : ℕ) (space : Bool) (w : width < 8) (e : r ≡ glyph_record (x % 2 ^ 21) width space (x % 2 ^ 6)) where
  pub glyph-is_no_head : is_head r ≡ false
  glyph-is_no_head = rw e (fields.glyph-is_no_head (x % 2 ^ 21) width space (x % 2 ^ 6) (omega arith) w (omega arith))

  pub glyph-width : width_code_of r ≡ width
  glyph-width = rw e (fields.glyph-width (x % 2 ^ 21) width space (x % 2 ^ 6) (omega arith) w (omega arith))

  pub glyph-whitespace : whitespace_of r ≡ space
  glyph-whitespace = rw e (fields.glyph-whitespace (x % 2 ^ 21) width space (x % 2 ^ 6) (omega arith) w (omega arith))

pub ruleset glyph_fields = (glyph-is_no_head, glyph-width, glyph-whitespace)
