-- Cause 6 for records: counting those that fail is testing the style number of each glyph.
use Prim.Native.Nat.{ℕ}
use mathlib.Core.Path.{◌≡◌, refl, ap, ◌∙◌}
use mathlib.Core.Bool.{Bool, true, false, not, cond, ◌&&◌, ◌||◌}
use mathlib.Core.List.{List, [], ◌∷◌}
use Rattle.std.specs.Prelude.{ltb, count_by}
use Rattle.refuse.proofs.Counts.{any_counted}
use Rattle.text.specs.Record.{is_head, style_of}
use Rattle.text.specs.Lists.{some}
use Rattle.refuse.specs.Causes.{no_style, style_numbers_wrong, glyph_styles}
use Rattle.refuse.specs.ScanExtra.{glyph_no_style}

-- testing each record is testing the style number of each glyph
pub glyphs-tested : (count : ℕ) (rs : List ℕ) → some (glyph_no_style count) rs ≡ some (no_style count) (glyph_styles rs)
glyphs-tested count [] = refl
glyphs-tested count (r ∷ rs) = go (is_head r) (glyphs-tested count rs)
  where
    go : (b : Bool) → some (glyph_no_style count) rs ≡ some (no_style count) (glyph_styles rs)
        → ((not b && no_style count (style_of r)) || some (glyph_no_style count) rs) ≡ some (no_style count) (cond b (glyph_styles rs) (style_of r ∷ glyph_styles rs))
    go true ih = ih
    go false ih = ap (λ (t : Bool). no_style count (style_of r) || t) ih

pub glyphs_counted : (count : ℕ) (rs : List ℕ) (wrong : ℕ) → wrong ≡ count_by (glyph_no_style count) rs → ltb 0 wrong ≡ style_numbers_wrong count (glyph_styles rs)
glyphs_counted count rs wrong e = any_counted (glyph_no_style count) rs wrong e ∙ glyphs-tested count rs
