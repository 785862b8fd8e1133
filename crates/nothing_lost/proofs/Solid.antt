-- no_solid_lost: the solid glyphs of the lines, in order, are those of the text line that are no wider than the limit.
-- dropped-whitespace: every glyph that wrapping drops is whitespace.
-- Both hold whatever the tests of steps 2 and 3 (`any_breaks`).
use Prim.Native.Nat.{◌<◌}
use mathlib.Core.Path.{◌≡◌}
use mathlib.Core.List.{List, []}
use Rattle.text.specs.Line.{Glyph}
use Rattle.wrapping.specs.declared.Rule.{Rule}
use Rattle.wrapping.specs.Wrapping.{wrap, not_over_wide}
use Rattle.nothing_lost.specs.Glyphs.{solids, glyphs_of_all}
use Rattle.nothing_lost.specs.Breaks.{document_tests}
use Rattle.nothing_lost.proofs.AnyBreaks.{any_breaks, any_breaks_dropped, wrap_by_document}
pub use Rattle.nothing_lost.proofs.Lists.{solids-append}

pub no_solid_lost : (u : Rule) (gs : List Glyph) → 0 < u.limit →
    solids (glyphs_of_all (wrap u gs).lines) ≡ solids (not_over_wide u gs)
no_solid_lost u gs h = rw (← wrap_by_document u gs) (any_breaks document_tests u gs h).0

pub dropped-whitespace : (u : Rule) (gs : List Glyph) → solids (wrap u gs).dropped ≡ []
dropped-whitespace u gs = rw (← wrap_by_document u gs) (any_breaks_dropped document_tests u gs)
