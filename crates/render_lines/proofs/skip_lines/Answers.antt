-- `render_lines::skip_lines` meets its contract.
use Rattle.render_lines.proofs.Skipping.{skipping}
use Rattle.render_lines.proofs.skip_lines.Goals as goal

pub returns-in_default : goal.returns-in_default
returns-in_default c = search skipping

pub loop-preserved : goal.loop-preserved
loop-preserved c = search skipping
