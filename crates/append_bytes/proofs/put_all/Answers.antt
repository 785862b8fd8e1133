-- `append_bytes::put_all` meets its contract.
use Rattle.std.proofs.Common.{refl}
use Rattle.append_bytes.proofs.Writing.{written_part}
use Rattle.append_bytes.proofs.put_all.Goals as goal

pub returns : goal.returns
returns c = written_part _ _ _ _ _ c.requires refl (rw c.copy_from_slice.ensures.after refl)
