-- `titles::heads::last_head` meets its contract.
use Rattle.titles.proofs.LastTitle.{Seeking}
use Rattle.titles.proofs.heads.last_head.Given as goal

abbrev pub invariant-loop-i : goal.invariant-loop-i
invariant-loop-i l = Seeking l.titles l.end l.i
