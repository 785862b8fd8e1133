-- `check_records::wrong_heads` meets its contract.
use Rattle.std.specs.Prelude.{◌≡◌, count_by, take}
use Rattle.refuse.specs.Causes.{text_head_wrong}
use Rattle.check_records.proofs.wrong_heads.Given as goal

abbrev pub invariant-loop-word : goal.invariant-loop-word
invariant-loop-word l = l.wrong ≡ count_by text_head_wrong (take l.word-index l.text)
