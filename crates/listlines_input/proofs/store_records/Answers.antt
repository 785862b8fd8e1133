-- `listlines_input::store_records` meets its contract.
use Rattle.listlines_input.proofs.Parsing.{storing}
use Rattle.listlines_input.proofs.store_records.Goals as goal

pub record_at-requires : goal.record_at-requires
record_at-requires c = search storing

pub loop-i-preserved : goal.loop-i-preserved
loop-i-preserved c = search storing

pub returns : goal.returns
returns c = search storing
