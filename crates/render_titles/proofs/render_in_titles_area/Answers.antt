-- `render_titles::render_in_titles_area` meets its contract.
use Rattle.titles.proofs.Positions.{positions, titles-fit}
use mathlib.Core.Path.{◌∙◌}
use borrow.Author.Rules.{rules}
use Rattle.render_titles.proofs.render_in_titles_area.Goals as goal

pub render_center_titles-requires-clause-area_fits : goal.render_center_titles-requires-clause-area_fits
render_center_titles-requires-clause-area_fits c = (search titles-fit, search rules)

pub render_right_titles-requires : goal.render_right_titles-requires
render_right_titles-requires c = let pre = c.requires in
    let kept = c.render_center_titles.auto.cells ∙ c.render_left_titles.auto.cells in
    record { columns_nonzero = search rules; area_fits = search titles-fit }

pub returns : goal.returns
returns c = search positions
