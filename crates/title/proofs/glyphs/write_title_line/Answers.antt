-- `title::glyphs::write_title_line` meets its contract.
use Rattle.title.proofs.TitleLine.{starts-within, line-written}
use Rattle.title.proofs.glyphs.write_title_line.Goals as goal

pub slice_bounds-write_glyphs-count : goal.slice_bounds-write_glyphs-count
slice_bounds-write_glyphs-count c = search starts-within

pub returns : goal.returns
returns c = search line-written
