-- `paragraph::render_paragraph` meets its contract.
use Rattle.paragraph.proofs.Frames.{some_columns}
use Rattle.paragraph.proofs.Insides.{inside-laws}
use Rattle.render_block.proofs.Frames.{met-not-empty}
use borrow.Author.Rules.{rules}
use Rattle.paragraph.proofs.render_paragraph.Goals as goal

pub returns-then-is_empty-clause-cells : goal.returns-then-is_empty-clause-cells
returns-then-is_empty-clause-cells c = search (inside-laws, some_columns)

pub returns-then-is_empty-clause-counts : goal.returns-then-is_empty-clause-counts
returns-then-is_empty-clause-counts c = search inside-laws

pub render_text-requires-clause-composable : goal.render_text-requires-clause-composable
render_text-requires-clause-composable c = (search rules, search met-not-empty)

pub render_text-requires-clause-area_on_screen : goal.render_text-requires-clause-area_on_screen
render_text-requires-clause-area_on_screen c = search inside-laws

pub returns-clause-cells : goal.returns-clause-cells
returns-clause-cells c = search inside-laws

pub returns-clause-counts : goal.returns-clause-counts
returns-clause-counts c = search inside-laws
