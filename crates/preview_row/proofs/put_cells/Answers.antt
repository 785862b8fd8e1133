-- `preview_row::put_cells` meets its contract.
use Rattle.std.proofs.Common.{arith}
use Rattle.std.proofs.lemmas.Grind.{common_steps}
use Rattle.append_bytes.proofs.Writing.{writing_goes}
use Rattle.preview_row.proofs.put_cells.Goals as goal

pub loop-cell-preserved : goal.loop-cell-preserved
loop-cell-preserved c =
    record {
      written = writing_goes _ _ _ _ _ c.loop-cell.invariant.written _ _ _ _ c.put_all-next.ensures (grind (arith, common_steps));
      upper_bound = omega arith;
    }
