use Rattle.std.proofs.Common.{rules}
use Rattle.preview_file.proofs.Storing.{storing}
use Rattle.preview_file.proofs.store.store_styles.Goals as goal

pub loop-i-preserved : goal.loop-i-preserved
loop-i-preserved c = search (storing, rules)

pub returns : goal.returns
returns c = search (storing, rules)
