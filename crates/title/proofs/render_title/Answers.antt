-- `title::render_title` meets its contract.
use Rattle.title.proofs.TitleLine.{title-drawn}
use Rattle.title.proofs.render_title.Goals as goal

pub returns : goal.returns
returns c = search title-drawn
