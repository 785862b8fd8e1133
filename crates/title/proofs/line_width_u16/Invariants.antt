-- `title::line_width_u16` meets its contract.
use Rattle.title.proofs.Widths.{AddingWidths}
use Rattle.title.proofs.line_width_u16.Given as goal

abbrev pub invariant-loop-word : goal.invariant-loop-word
invariant-loop-word l = AddingWidths l.ambiguous l.glyphs l.width l.word-index
