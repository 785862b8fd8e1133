-- `render_lines::skip_lines` meets its contract.
use Rattle.render_lines.proofs.Skipping.{Skipping}
use Rattle.render_lines.proofs.skip_lines.Given as goal

abbrev pub invariant-loop : goal.invariant-loop
invariant-loop l = Skipping l.options.rule l.options.default_alignment l.text l.options.scroll l.initial.composer l.composer l.counter
