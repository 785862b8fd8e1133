-- `measure::line_width` meets its contract.
use Rattle.measure.proofs.Answers.{width-sound}
use Rattle.measure.proofs.Lines.{width_sum_fits}
use borrow.Author.Rules.{rules}
use Rattle.measure.proofs.line_width.Goals as goal

pub widest_line-columns-requires : goal.widest_line-columns-requires
widest_line-columns-requires c = let sound = width-sound _ _ c.line_width_verdict.ensures (search rules) in
    (sound.few, sound.opens)

pub overflow_add-sum : goal.overflow_add-sum
overflow_add-sum c = let sound = width-sound _ _ c.line_width_verdict.ensures (search rules) in
    search width_sum_fits
