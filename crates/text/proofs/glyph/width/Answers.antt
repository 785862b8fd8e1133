-- `text::glyph::width` meets its contract.
use Rattle.text.proofs.Reading.{reading}
use Rattle.text.proofs.glyph.width.Goals as goal

pub returns-then-code-eq-AMBIGUOUS : goal.returns-then-code-eq-AMBIGUOUS
returns-then-code-eq-AMBIGUOUS c = search reading

pub returns : goal.returns
returns c = search reading
