-- `measure::line_count` meets its contract.
use Rattle.measure.proofs.Answers.{count-sound}
use Rattle.measure.proofs.Lines.{count_fits, count-sum-fits}
use borrow.Author.Rules.{rules}
use Rattle.measure.proofs.line_count.Goals as goal

pub lines_at-count-requires : goal.lines_at-count-requires
lines_at-count-requires c = let sound = count-sound _ _ c.line_count_verdict.ensures (search rules) in
    (sound.few, sound.opens)

pub overflow_cast-result : goal.overflow_cast-result
overflow_cast-result c = let sound = count-sound _ _ c.line_count_verdict.ensures (search rules) in
    search count_fits

pub overflow_add-result : goal.overflow_add-result
overflow_add-result c = let sound = count-sound _ _ c.line_count_verdict.ensures (search rules) in
    search count-sum-fits
