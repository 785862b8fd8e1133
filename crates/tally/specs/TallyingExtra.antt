-- Not in the papers: intermediate results of the functions; those on composed lines are in the crate `tally_lines`. `Tally` has
-- the rules.
use Rattle.std.specs.Prelude.{ℕ, List, length}
use Rattle.text.specs.Line.{glyphs_from}
use Rattle.wrapping.specs.declared.Rule.{Rule}
use Rattle.wrapping.specs.Wrapping.{over_wides}
use Rattle.tally.specs.declared.TextGlyphCounts.{TextGlyphCounts}

-- counts of a text's glyphs and of the over-wide ones among them
unfoldable pub glyph_counts : Rule → List ℕ → TextGlyphCounts
glyph_counts u text = record { glyphs = length (glyphs_from u.ambiguous 0 text); over_wide = length (over_wides u (glyphs_from u.ambiguous 0 text)) }
