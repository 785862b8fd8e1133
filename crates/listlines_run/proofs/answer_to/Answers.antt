-- `listlines_run::answer_to` meets its contract.
use Rattle.listlines_run.proofs.Answering.{err_of, text-fits, answer_own, answer_listed}
use lib.Seq.{length-take-le}
use mathlib.Core.Path.{sym, ap, ◌∙◌}
use Rattle.listlines_run.specs.Program.{answer_for}
use Rattle.listlines_run.proofs.answer_to.Goals as goal

pub slice_bounds-list_lines-end : goal.slice_bounds-list_lines-end
slice_bounds-list_lines-end c = text-fits _ _ c.parse.ensures.value _ c.in_ok-limit.was _ _ c.requires.0 c.parse.auto.text

pub slice_bounds-list_lines-end-2 : goal.slice_bounds-list_lines-end-2
slice_bounds-list_lines-end-2 c =
    let fits = text-fits _ _ c.parse.ensures.value _ c.in_ok-limit.was _ _ c.requires.0 c.parse.auto.text in
    sym (length-take-le _ _ fits)

pub returns-in_err-limit : goal.returns-in_err-limit
returns-in_err-limit c =
    let own = answer_own _ _ c.parse.ensures.value _ c.args.list.now c.in_err-limit.was in
    (err_of _ _ c.from_residual.ensures.1 ∙ own.0, own.1)

pub returns-in_err-count : goal.returns-in_err-count
returns-in_err-count c =
    let listed = answer_listed _ _ c.parse.ensures.value _ c.in_ok-limit.was _ _ _ c.parse.ensures.text_after _ _ c.list_lines.ensures.0 c.list_lines.ensures.1 in
    let own = ap answer_for c.in_err-count.was in
    (err_of _ _ c.from_residual-in_err-count.ensures.1 ∙ sym own ∙ listed.0, listed.1)

pub returns : goal.returns
returns c =
    let listed = answer_listed _ _ c.parse.ensures.value _ c.in_ok-limit.was _ _ _ c.parse.ensures.text_after _ _ c.list_lines.ensures.0 c.list_lines.ensures.1 in
    let own = ap answer_for c.in_ok-count.was in
    (sym own ∙ listed.0, listed.1)
