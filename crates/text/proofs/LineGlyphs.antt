-- The glyphs of all text lines, in order, are the records that aren't heads.
use Prim.Native.Nat.{ℕ, suc, ◌+◌, ◌≤◌}
use mathlib.Core.Path.{◌≡◌, refl, ap}
use mathlib.Core.Bool.{Bool, true, false, cond}
use mathlib.Core.List.{List, [], ◌∷◌, ◌++◌}
use native.Mathlib.Omega.{arith}
use lib.ListN.{length}
use Rattle.text.specs.declared.AmbiguousWidth.{AmbiguousWidth}
use Rattle.text.specs.Record.{is_head}
use Rattle.text.specs.Line.{Glyph, TextLine, glyph_from, numbered, until_head, lines_from, glyphs_of, glyphs_from, starts_from}

-- the glyphs of lines, in order
abbrev pub line_glyphs : AmbiguousWidth → List TextLine → List Glyph
line_glyphs a [] = []
line_glyphs a (line ∷ lines) = glyphs_of a line ++ line_glyphs a lines

-- the glyphs before the first head, then those of the lines, are all glyphs
pub split-glyphs : (a : AmbiguousWidth) (number : ℕ) (rs : List ℕ) → numbered a number (until_head rs) ++ line_glyphs a (lines_from number rs) ≡ glyphs_from a number rs
split-glyphs a number [] = refl
split-glyphs a number (r ∷ rs) = go (is_head r) (split-glyphs a (suc number) rs)
  where
    go : (b : Bool) → numbered a (suc number) (until_head rs) ++ line_glyphs a (lines_from (suc number) rs) ≡ glyphs_from a (suc number) rs
        → numbered a number (cond b [] (r ∷ until_head rs))
        ++ line_glyphs a (cond b (record { head = r; first = suc number; records = until_head rs } ∷ lines_from (suc number) rs) (lines_from (suc number) rs))
        ≡ cond b (glyphs_from a (suc number) rs) (glyph_from a number r ∷ glyphs_from a (suc number) rs)
    go true ih = ih
    go false ih = ap {B = List Glyph} (λ (gs : List Glyph). glyph_from a number r ∷ gs) ih

-- with no glyph before the first head, the lines have all glyphs
pub all_glyphs : (a : AmbiguousWidth) (number : ℕ) (rs : List ℕ) → until_head rs ≡ [] → line_glyphs a (lines_from number rs) ≡ glyphs_from a number rs
all_glyphs a number rs e = rw e at (split-glyphs a number rs)

-- there are at most as many glyphs as records
pub glyphs-short : (a : AmbiguousWidth) (number : ℕ) (rs : List ℕ) → length (glyphs_from a number rs) ≤ length rs
glyphs-short a number [] = omega arith
glyphs-short a number (r ∷ rs) = go (is_head r) (glyphs-short a (suc number) rs)
  where
    go : (b : Bool) → length (glyphs_from a (suc number) rs) ≤ length rs
        → length (cond b (glyphs_from a (suc number) rs) (glyph_from a number r ∷ glyphs_from a (suc number) rs)) ≤ suc (length rs)
    go true ih = omega arith
    go false ih = omega arith

pub starts-length : (column : ℕ) (gs : List Glyph) → length (starts_from column gs) ≡ length gs
starts-length column [] = refl
starts-length column (g ∷ gs) = omega (arith, starts-length (column + g.width) gs)
