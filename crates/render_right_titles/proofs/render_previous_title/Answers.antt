-- `render_right_titles::render_previous_title` meets its contract.
use Rattle.titles.proofs.RightTitles.{moved_back}
use Rattle.render_right_titles.proofs.render_previous_title.Goals as goal

pub returns-then-is_empty : goal.returns-then-is_empty
returns-then-is_empty c = search moved_back

pub render_title_before-requires : goal.render_title_before-requires
render_title_before-requires c = search moved_back

pub returns-then-has_title : goal.returns-then-has_title
returns-then-has_title c = search moved_back

pub returns : goal.returns
returns c = search moved_back
