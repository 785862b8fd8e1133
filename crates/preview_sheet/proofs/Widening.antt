-- Widths as symbols: one law for each path through the code.
use Prim.Native.Nat.{ℕ, ◌%◌, ◌^◌}
use mathlib.Core.Path.{◌≡◌, refl, ◌∙◌}
use mathlib.Core.Bool.{Bool, true, false}
use Rattle.text.specs.declared.AmbiguousWidth.{AmbiguousWidth}
use Rattle.text.specs.Record.{is_head, width_of, whitespace_of, style_of, glyph_record}
use Rattle.cell.specs.Cell.{cell_from, with_untouched}
use Rattle.preview_sheet.specs.WidthsExtra.{widened, with_width}

module _ (a : AmbiguousWidth) (r : ℕ) (b : Bool) (e : b ≡ is_head r) where
  pub widened-head : b ≡ true → r ≡ widened a r
  unfolding widened
  widened-head t = rw (← e, t) refl

  pub widened-glyph :
      (w s v : ℕ) (space : Bool) → b ≡ false → w ≡ width_of a r → space ≡ whitespace_of r → s ≡ style_of r → v ≡ glyph_record w w space s → v ≡ widened a r
  unfolding widened
  widened-glyph w s v space f g h k p = p ∙ rw (← e, f, g, h, k) refl

pub marked-width : (cell wide symbol v : ℕ) → symbol ≡ (cell_from wide).symbol → v ≡ with_untouched (symbol % 2 ^ 3) cell → v ≡ with_width cell wide
unfolding with_width
marked-width cell wide symbol v e p = p ∙ rw e refl

pub ruleset widening = (widened-head, widened-glyph, marked-width)
