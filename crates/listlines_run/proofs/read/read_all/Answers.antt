-- `read_all` loses bytes of the input before an error: those that it put into the buffer, and those that it skipped.
use Rattle.std.proofs.Common.{rules}
use Rattle.read_input.specs.LosesExtra.{Loses}
use Rattle.listlines_run.proofs.Skipping.{loses_more}
use Rattle.listlines_run.proofs.read.read_all.Goals as goal

pub returns-in_err-over-clause-err : goal.returns-in_err-over-clause-err
returns-in_err-over-clause-err g c =
    let lost : Loses (g.R.Read.remaining c.args.input.now) (g.R.Read.remaining c.skip_rest.new.input) =
    loses_more _ _ _ _ c.in_ok-read.ensures.bytes c.in_err-over.ensures.err in
    search rules
