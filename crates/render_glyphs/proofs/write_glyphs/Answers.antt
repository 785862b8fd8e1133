-- `render_glyphs::write_glyphs` meets its contract.
use Rattle.render_glyphs.proofs.Writing.{writing, writing_sum, writing_fits}
use Rattle.render_glyphs.proofs.write_glyphs.Goals as goal

pub loop-word-init : goal.loop-word-init
loop-word-init c = search writing

pub loop-word-preserved-in_default : goal.loop-word-preserved-in_default
loop-word-preserved-in_default c = search writing

pub write_glyph-place-requires : goal.write_glyph-place-requires
write_glyph-place-requires c = search writing_fits

pub overflow_add-column : goal.overflow_add-column
overflow_add-column c = search writing_sum

pub loop-word-preserved : goal.loop-word-preserved
loop-word-preserved c = search writing

pub returns : goal.returns
returns c = search writing
