-- `title_glyphs::write_glyphs` meets its contract.
use Rattle.title_glyphs.proofs.Writing.{Writing}
use Rattle.title_glyphs.proofs.write_glyphs.Given as goal

abbrev pub invariant-loop-word : goal.invariant-loop-word
invariant-loop-word l = Writing l.ambiguous l.styles l.hidden l.glyphs l.initial.row l.row l.column l.word-index
