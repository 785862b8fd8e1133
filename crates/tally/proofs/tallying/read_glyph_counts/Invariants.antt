-- `tally::tallying::read_glyph_counts` meets its contract.
use Rattle.tally.proofs.Glyphs.{Passing}
use Rattle.tally.proofs.tallying.read_glyph_counts.Given as goal

abbrev pub invariant-loop-glyph_or_head : goal.invariant-loop-glyph_or_head
invariant-loop-glyph_or_head l = Passing l.rule l.text l.glyphs l.over_wide l.glyph_or_head-index
