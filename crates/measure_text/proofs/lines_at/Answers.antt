-- `measure_text::lines_at` meets its contract.
use Rattle.measure_text.proofs.Lines.{counted}
use Rattle.measure_text.proofs.lines_at.Goals as goal

pub returns-in_default : goal.returns-in_default
returns-in_default c = search counted

pub returns : goal.returns
returns c = search counted
