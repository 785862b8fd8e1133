-- Every glyph of a text is emitted, dropped or over-wide.
use Prim.Native.Nat.{◌+◌, ◌<◌}
use mathlib.Core.Path.{◌≡◌, refl}
use mathlib.Core.Bool.{Bool, true, false, cond}
use mathlib.Core.List.{List, [], ◌∷◌, ◌++◌}
use native.Mathlib.Omega.{arith}
use lib.ListN.{length, length-append}
use Rattle.text.specs.Line.{Glyph, TextLine, glyphs_of}
use Rattle.text.proofs.LineGlyphs.{line_glyphs}
use Rattle.wrapping.specs.declared.Rule.{Rule}
use Rattle.wrapping.specs.Wrapping.{is_over_wide, over_wides}
use Rattle.nothing_lost.specs.Glyphs.{solids, glyphs_of_all}
use Rattle.nothing_lost.proofs.Lists.{glyphs-append}
use Rattle.nothing_lost.proofs.Solid.{solids-append, dropped-whitespace}
use Rattle.nothing_lost.proofs.Accounted.{accounted_lengths}
use Rattle.line_composer.specs.Lines.{all_skipped, all_dropped}
use Rattle.tally_lines.proofs.Emitted.{wrapped}

over-append : (u : Rule) (a b : List Glyph) → length (over_wides u (a ++ b)) ≡ length (over_wides u a) + length (over_wides u b)
over-append u [] b = omega arith
over-append u (g ∷ a) b = go (is_over_wide u g) (over-append u a b)
  where
    go : (t : Bool) → length (over_wides u (a ++ b)) ≡ length (over_wides u a) + length (over_wides u b)
        → length (cond t (g ∷ over_wides u (a ++ b)) (over_wides u (a ++ b))) ≡ length (cond t (g ∷ over_wides u a) (over_wides u a)) + length (over_wides u b)
    go true e = omega arith
    go false e = e

-- the over-wide glyphs of all lines are those of each line together
pub skipped-length : (u : Rule) (ls : List TextLine) → length (over_wides u (line_glyphs u.ambiguous ls)) ≡ length (all_skipped u ls)
skipped-length u [] = refl
skipped-length u (line ∷ rest) = simp (over-append, length-append) (omega (arith, skipped-length u rest))

-- at a limit above 0 every glyph of text lines is emitted, dropped or over-wide
pub all-accounted : (u : Rule) (ls : List TextLine) → 0 < u.limit
    → length (glyphs_of_all (wrapped u ls)) + length (all_dropped u ls) + length (all_skipped u ls) ≡ length (line_glyphs u.ambiguous ls)
all-accounted u [] h = refl
all-accounted u (line ∷ rest) h =
    simp (glyphs-append, length-append) (omega (arith, accounted_lengths u (glyphs_of u.ambiguous line) h, all-accounted u rest h))

-- every dropped glyph is whitespace
pub all-blank : (u : Rule) (ls : List TextLine) → solids (all_dropped u ls) ≡ []
all-blank u [] = refl
all-blank u (line ∷ rest) = simp (solids-append, dropped-whitespace) (all-blank u rest)
