-- `wrapping::Run::after_fitting` meets its contract.
use Rattle.wrapping.proofs.Fitting.{dropping}
use Rattle.wrapping.proofs.Run.after_fitting.Goals as goal

pub loop-i-init : goal.loop-i-init
loop-i-init c = search dropping

pub loop-i-preserved-then-rule-w : goal.loop-i-preserved-then-rule-w
loop-i-preserved-then-rule-w c = search dropping

pub returns-then-left-w : goal.returns-then-left-w
returns-then-left-w c = search dropping

pub loop-i-preserved : goal.loop-i-preserved
loop-i-preserved c = search dropping

pub returns : goal.returns
returns c = search dropping
