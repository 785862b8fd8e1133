-- `check_records::any_title_wrong` meets its contract.
use Rattle.refuse.proofs.TitleScan.{scanning}
use Rattle.refuse.specs.ScanExtra.{scan_wrong}
use borrow.Author.Rules.{rules}
use Rattle.check_records.proofs.any_title_wrong.Goals as goal

pub returns-in_default : goal.returns-in_default
unfolding scan_wrong
returns-in_default c = search (rules, scanning)
