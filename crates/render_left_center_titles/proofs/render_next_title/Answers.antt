-- `render_left_center_titles::render_next_title` meets its contract.
use Rattle.titles.proofs.Areas.{room_fits}
use Rattle.titles.proofs.Placing.{moves}
use borrow.Author.Rules.{rules}
use Rattle.render_left_center_titles.proofs.render_next_title.Goals as goal

pub returns-then-is_empty : goal.returns-then-is_empty
returns-then-is_empty c = search moves

pub render_title_at-requires : goal.render_title_at-requires
render_title_at-requires c = search (rules, room_fits)

pub returns-then-has_title : goal.returns-then-has_title
returns-then-has_title c = search moves

pub returns : goal.returns
returns c = search moves
