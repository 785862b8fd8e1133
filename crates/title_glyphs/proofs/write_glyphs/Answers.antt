-- `title_glyphs::write_glyphs` meets its contract.
use Rattle.title_glyphs.proofs.Writing.{writing}
use Rattle.title_glyphs.proofs.write_glyphs.Goals as goal

pub loop-word-init : goal.loop-word-init
loop-word-init c = search writing

pub returns-then-end-next : goal.returns-then-end-next
returns-then-end-next c = search writing

pub loop-word-preserved : goal.loop-word-preserved
loop-word-preserved c = search writing

pub returns : goal.returns
returns c = search writing
