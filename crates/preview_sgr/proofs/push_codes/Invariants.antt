-- The codes below `number` are written, and the others follow from `bits`.
use Rattle.std.proofs.Common.{◌≡◌, ◌++◌, ◌+◌, ◌-◌, ◌*◌, ◌≤◌}
use Rattle.arrayvec.specs.ArrayVec.{array_vec_len}
use Rattle.preview_sgr.specs.SgrExtra.{codes}
use Rattle.preview_sgr.proofs.push_codes.Given as goal

abbrev pub invariant-loop-number : goal.invariant-loop-number
invariant-loop-number g l = record {
  written : l.text.items ++ codes l.bits l.number (10 - l.number) ≡ l.initial.text.items ++ codes l.modifiers 1 9;
  upper_bound : array_vec_len l.text + 2 ≤ array_vec_len l.initial.text + 2 * l.number;
}
