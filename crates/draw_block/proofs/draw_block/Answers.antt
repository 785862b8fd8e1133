-- `draw_block::draw_block` meets its contract.
use Rattle.draw_block.proofs.Answers.{few_columns, few_rows, drawable}
use borrow.Author.Rules.{rules}
use Rattle.draw_block.proofs.draw_block.Goals as goal

pub screen_size-screen-requires : goal.screen_size-screen-requires
screen_size-screen-requires c = let checked = c.draw_block_verdict.ensures in
    (few_columns _ _ checked (search rules), few_rows _ _ checked (search rules))

pub render-requires : goal.render-requires
render-requires c = rw c.screen_size-screen.ensures (drawable _ _ c.draw_block_verdict.ensures (search rules))
