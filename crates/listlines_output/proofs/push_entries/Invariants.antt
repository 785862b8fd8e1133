-- The lines of the entries so far are written.
use Rattle.std.proofs.Common.{◌≡◌, ◌++◌, ◌+◌, ◌*◌, ◌≤◌, drop}
use Rattle.arrayvec.specs.ArrayVec.{array_vec_len}
use Rattle.listlines_output.specs.EntriesExtra.{entries_text}
use Rattle.listlines_output.proofs.push_entries.Given as goal

abbrev pub invariant-loop-entry : goal.invariant-loop-entry
invariant-loop-entry g l = record {
  written : l.text.items ++ entries_text (drop l.entry-index l.entries) ≡ l.initial.text.items ++ entries_text l.entries;
  upper_bound : array_vec_len l.text ≤ array_vec_len l.initial.text + 30 * l.entry-index;
}
