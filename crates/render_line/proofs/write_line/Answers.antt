-- `render_line::write_line` meets its contract.
use Rattle.render_line.proofs.LineDrawn.{LineWritten, line_call, line-drawn, line-placed, line-clipped}
use Rattle.render_line.proofs.write_line.Goals as goal

pub returns : goal.returns
returns c = let w : LineWritten (line_call _ _ _ _ _ _) _ _ _
    = record { ordered = c.requires.first_le_end.0; within = c.requires.first_le_end.1; width = c.requires.width_value; offset = c.get_line_offset-start.ensures.0; low = c.get_line_offset-start.ensures.1; wrote = c.write_glyphs.ensures } in
    record { cells = line-drawn _ _ _ _ w; placed = line-placed _ _ _ _ w; clipped = line-clipped _ _ _ _ w }
