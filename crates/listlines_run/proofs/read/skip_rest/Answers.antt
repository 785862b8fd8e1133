use Rattle.listlines_run.proofs.Skipping.{skipping_goes}
use Rattle.listlines_run.proofs.read.skip_rest.Goals as goal

pub loop-preserved : goal.loop-preserved
loop-preserved g c = skipping_goes _ _ _ _ _ _ c.loop.invariant c.in_ok-n.ensures.skipped c.if-n-eq0.false
