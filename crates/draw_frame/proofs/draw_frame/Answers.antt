-- `draw_frame::draw_frame` meets its contract.
use Rattle.draw_frame.proofs.Answers.{few_columns, few_rows, drawable}
use borrow.Author.Rules.{rules}
use Rattle.draw_frame.proofs.draw_frame.Goals as goal

pub screen_size-screen-requires : goal.screen_size-screen-requires
screen_size-screen-requires c = let checked = c.draw_frame_verdict.ensures in
    (few_columns _ _ checked (search rules), few_rows _ _ checked (search rules))

pub render_frame-requires : goal.render_frame-requires
render_frame-requires c = rw c.screen_size-screen.ensures (drawable _ _ c.draw_frame_verdict.ensures (search rules))
