-- `listlines_output::put_entries` meets its contract.
use Rattle.std.proofs.Common.{arith}
use Rattle.std.proofs.lemmas.Grind.{common_steps}
use Rattle.append_bytes.proofs.Writing.{writing_goes}
use Rattle.listlines_output.proofs.put_entries.Goals as goal

pub loop-entry-preserved : goal.loop-entry-preserved
loop-entry-preserved c =
    record {
      written = writing_goes _ _ _ _ _ c.loop-entry.invariant.written _ _ _ _ c.put_all-next.ensures (grind (arith, common_steps));
      upper_bound = omega arith;
    }
