-- `tally::tallying::read_glyph_counts` meets its contract.
use Rattle.tally.proofs.Glyphs.{passing}
use Rattle.tally.proofs.tallying.read_glyph_counts.Goals as goal
use Rattle.tally.proofs.tallying.read_glyph_counts.Goals.{then-rule-width, else-rule-width}

pub loop-glyph_or_head-init : goal.loop-glyph_or_head-init
loop-glyph_or_head-init c = search passing

pub loop-glyph_or_head-preserved-then-is_head : goal.loop-glyph_or_head-preserved-then-is_head
loop-glyph_or_head-preserved-then-is_head c = search passing

pub loop-glyph_or_head-preserved : goal.loop-glyph_or_head-preserved
loop-glyph_or_head-preserved c = elim c.if-rule-width.branch [ then-rule-width w ↦ rw w.over_wide-is (search passing) | else-rule-width w ↦ rw w.over_wide-is (search passing) ]

pub returns : goal.returns
returns c = search passing
