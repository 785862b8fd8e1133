-- The lines of the entries so far are written.
use Rattle.std.proofs.Common.{◌*◌, ◌≤◌, drop}
use Rattle.append_bytes.proofs.Writing.{Writing}
use Rattle.listlines_output.specs.EntriesExtra.{entries_text}
use Rattle.listlines_output.proofs.put_entries.Given as goal

abbrev pub invariant-loop-entry : goal.invariant-loop-entry
invariant-loop-entry l = record {
  written : Writing l.initial.buffer l.buffer l.next (entries_text (drop l.entry-index l.entries)) (entries_text l.entries);
  upper_bound : l.next ≤ 30 * l.entry-index;
}
