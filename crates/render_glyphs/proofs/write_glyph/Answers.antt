-- `render_glyphs::write_glyph` meets its contract.
use Rattle.render_glyphs.proofs.OneGlyph.{glyph_unwritten, glyph-written, written-starts}
use borrow.Author.Rules.{rules}
use Rattle.render_glyphs.proofs.write_glyph.Goals as goal

pub write_cell-requires : goal.write_cell-requires
write_cell-requires c = (search written-starts, search rules)

pub returns-then-is_written-clause-cells : goal.returns-then-is_written-clause-cells
returns-then-is_written-clause-cells c = search glyph-written

pub returns-clause-cells : goal.returns-clause-cells
returns-clause-cells c = search glyph_unwritten
