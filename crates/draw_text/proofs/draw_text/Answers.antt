-- `draw_text::draw_text` meets its contract.
use Rattle.draw_text.proofs.Answers.{few_columns, few_rows, composable}
use borrow.Author.Rules.{rules}
use Rattle.draw_text.proofs.draw_text.Goals as goal

pub screen_size-screen-requires : goal.screen_size-screen-requires
screen_size-screen-requires c = let checked = c.draw_text_verdict.ensures in
    (few_columns _ _ checked (search rules), few_rows _ _ checked (search rules))

pub render_paragraph-requires : goal.render_paragraph-requires
render_paragraph-requires c = rw c.screen_size-screen.ensures (composable _ _ c.draw_text_verdict.ensures (search rules))
