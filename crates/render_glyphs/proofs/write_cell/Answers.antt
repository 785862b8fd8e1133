-- `render_glyphs::write_cell` meets its contract.
use Rattle.render_glyphs.proofs.OneGlyph.{cell_written}
use Rattle.render_glyphs.proofs.write_cell.Goals as goal

pub returns : goal.returns
returns c = search cell_written
