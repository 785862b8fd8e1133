-- `tally::tallying::glyph_counts` meets its contract.
use Rattle.tally.proofs.Unread.{heads-few, glyphs_fit, counted_unread}
use Rattle.tally.proofs.tallying.glyph_counts.Goals as goal

pub overflow_sub-count : goal.overflow_sub-count
overflow_sub-count c = search heads-few

pub overflow_cast-glyphs : goal.overflow_cast-glyphs
overflow_cast-glyphs c = search glyphs_fit

pub returns : goal.returns
returns c = search counted_unread
