-- `count_pages::count_at` meets its contract.
use Rattle.count_pages.proofs.Lines.{counted}
use Rattle.count_pages.proofs.count_at.Goals as goal

pub returns-in_default : goal.returns-in_default
returns-in_default c = search counted

pub returns : goal.returns
returns c = search counted
