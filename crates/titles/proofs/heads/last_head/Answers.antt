-- `titles::heads::last_head` meets its contract.
use Rattle.titles.proofs.LastTitle.{seeking}
use Rattle.titles.proofs.heads.last_head.Goals as goal

pub loop-i-preserved : goal.loop-i-preserved
loop-i-preserved c = search seeking
