-- `check_records::any_title_wrong` meets its contract.
use Rattle.text.specs.LinesExtra.{cut_lines, lines_left}
use Rattle.refuse.proofs.TitleScan.{Scanning}
use Rattle.check_records.proofs.any_title_wrong.Given as goal

abbrev pub invariant-loop : goal.invariant-loop
invariant-loop l = Scanning l.most (cut_lines l.titles) (lines_left l.lines) l.counter
