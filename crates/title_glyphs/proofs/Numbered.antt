-- The glyphs of records from a number on.
use Prim.Native.Nat.{ℕ, ◌+◌, ◌≤◌, ◌<◌}
use mathlib.Core.Path.{◌≡◌, ap}
use mathlib.Core.List.{List, [], ◌∷◌}
use native.Mathlib.Numerals.{add-one}
use lib.ListN.{length, get_or, drop, drop_of_length-le}
use lib.Seq.{drop-cons}
use Rattle.text.specs.declared.AmbiguousWidth.{AmbiguousWidth}
use Rattle.text.specs.Line.{glyph_from, numbered}

-- the glyphs from number i on: glyph i, then the rest
pub glyphs-from : (a : AmbiguousWidth) (records : List ℕ) (i : ℕ) → i < length records
    → numbered a i (drop i records) ≡ glyph_from a i (get_or records i 0) ∷ numbered a (i + 1) (drop (i + 1) records)
glyphs-from a records i h = rw (add-one i, drop-cons records i 0 h)

-- none remain at the end
pub glyphs-end : (a : AmbiguousWidth) (records : List ℕ) (i : ℕ) → length records ≤ i → numbered a i (drop i records) ≡ []
glyphs-end a records i h = ap (numbered a i) (drop_of_length-le records h)
