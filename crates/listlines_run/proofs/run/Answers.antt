use Rattle.std.proofs.Common.{rules}
use Rattle.listlines_run.proofs.Running.{printed_all, cut_whole}
use Rattle.listlines_run.proofs.run.Goals as goal

pub returns : goal.returns
returns g c = printed_all _ _ _ _ _ _ _ (search rules) c.in_ok-length.ensures.kept _ _ (search (rules, cut_whole)) c.output_for.ensures c.new-printed.ensures c.write_all.ensures.bytes
