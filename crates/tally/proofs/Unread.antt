-- The glyphs of a text, counted without reading a width: all records but the heads; at a limit of 6 or more none is over-wide.
use Prim.Native.Nat.{ℕ, suc, ◌+◌, ◌-◌, ◌≤◌, ◌<◌, ◌^◌}
use mathlib.Core.Path.{◌≡◌, refl}
use mathlib.Core.Bool.{Bool, true, false, cond}
use mathlib.Core.List.{List, [], ◌∷◌}
use native.Mathlib.Omega.{arith}
use mir.Syntax.{w32}
use mir.Val.{Fits}
use borrow.Author.Tests.{le-ltb}
use lib.ListN.{length}
use Rattle.text.specs.declared.AmbiguousWidth.{AmbiguousWidth}
use Rattle.text.specs.declared.AmbiguousWidth.TheVariants.{Narrow}
use Rattle.text.specs.Record.{is_head, width_of}
use Rattle.text.specs.Line.{glyph_from, glyphs_from, until_head, lines_from}
use Rattle.text.proofs.Reading.{width-most}
use Rattle.wrapping.specs.declared.Rule.{Rule}
use Rattle.wrapping.specs.Wrapping.{is_over_wide, over_wides}
use Rattle.tally.specs.TallyingExtra.{glyph_counts}

glyphs_and_heads : (a : AmbiguousWidth) (i : ℕ) (rs : List ℕ) → length (glyphs_from a i rs) + length (lines_from i rs) ≡ length rs
glyphs_and_heads a i [] = refl
glyphs_and_heads a i (r ∷ rs) = go (is_head r) (glyphs_and_heads a (suc i) rs)
  where
    go : (b : Bool) → length (glyphs_from a (suc i) rs) + length (lines_from (suc i) rs) ≡ length rs
        → length (cond b (glyphs_from a (suc i) rs) (glyph_from a i r ∷ glyphs_from a (suc i) rs))
        + length (cond b (record { head = r; first = suc i; records = until_head rs } ∷ lines_from (suc i) rs) (lines_from (suc i) rs))
        ≡ suc (length rs)
    go true ih = omega arith
    go false ih = omega arith

none_over : (u : Rule) → 6 ≤ u.limit → (i : ℕ) (rs : List ℕ) → over_wides u (glyphs_from u.ambiguous i rs) ≡ []
unfolding is_over_wide
none_over u h i [] = refl
none_over u h i (r ∷ rs) = go (is_head r) (none_over u h (suc i) rs)
  where
    narrow : is_over_wide u (glyph_from u.ambiguous i r) ≡ false
    narrow = le-ltb u.limit (width_of u.ambiguous r) (omega (arith, width-most u.ambiguous r))

    go : (b : Bool) → over_wides u (glyphs_from u.ambiguous (suc i) rs) ≡ []
        → over_wides u (cond b (glyphs_from u.ambiguous (suc i) rs) (glyph_from u.ambiguous i r ∷ glyphs_from u.ambiguous (suc i) rs)) ≡ []
    go true ih = ih
    go false ih = rw narrow ih

module _ (text : List ℕ) (heads : ℕ) (e : heads ≡ length (lines_from 0 text)) where
  pub heads-few : heads ≤ length text
  heads-few = omega (arith, e, glyphs_and_heads Narrow 0 text)

  pub glyphs_fit : length text < 2 ^ 28 → Fits w32 (length text - heads)
  glyphs_fit few = record { fits = omega arith }

  pub counted_unread : (u : Rule) → 6 ≤ u.limit → record { glyphs = length text - heads; over_wide = 0 } ≡ glyph_counts u text
  unfolding glyph_counts
  counted_unread u h =
      let n : length text - heads ≡ length (glyphs_from u.ambiguous 0 text) = omega (arith, e, glyphs_and_heads u.ambiguous 0 text) in
      rw (n, none_over u h 0 text)
