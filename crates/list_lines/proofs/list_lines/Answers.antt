-- `list_lines::list_lines` meets its contract.
use native.Mathlib.Omega.{arith}
use borrow.Author.Rules.{rules}
use Rattle.refuse.proofs.Accepted.{lines_sound, lines_limit}
use Rattle.list_lines.proofs.Answers.{list-room}
use Rattle.list_lines.proofs.list_lines.Goals as goal

pub count_lines-count-requires : goal.count_lines-count-requires
count_lines-count-requires c = let right = lines_sound _ _ _ c.line_verdict.ensures (search rules) in
    (right.few, right.opens)

pub write_lines-requires : goal.write_lines-requires
write_lines-requires c = let checked = c.line_verdict.ensures in
    let right = lines_sound _ _ _ checked (search rules) in
    let low = lines_limit _ _ _ checked (search rules) in
    record { text_len_bound = (omega (arith, right.short), right.opens, omega arith); text_in_bounds = list-room _ _ _ _ c.count_lines-count.ensures c.list_too_short.ensures (search rules) }
