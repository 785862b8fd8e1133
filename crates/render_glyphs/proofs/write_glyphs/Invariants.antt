-- `render_glyphs::write_glyphs` meets its contract.
use Rattle.render_glyphs.proofs.Writing.{Writing}
use Rattle.render_glyphs.proofs.write_glyphs.Given as goal

abbrev pub invariant-loop-word : goal.invariant-loop-word
invariant-loop-word l = Writing l.styles l.style l.text_style l.rule l.records l.initial.row l.row l.counts l.column l.word-index
