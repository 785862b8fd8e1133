-- `text::line::count_heads` meets its contract.
use mathlib.Core.Path.{◌≡◌}
use lib.ListN.{take}
use Rattle.std.specs.List.{count_by}
use Rattle.text.specs.Record.{is_head}
use Rattle.text.proofs.line.count_heads.Given as goal

abbrev pub invariant-loop-record : goal.invariant-loop-record
invariant-loop-record l = l.count ≡ count_by is_head (take l.record-index l.records)
