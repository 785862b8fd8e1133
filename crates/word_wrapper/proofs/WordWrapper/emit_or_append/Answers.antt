-- `word_wrapper::WordWrapper::emit_or_append` meets its contract.
use Rattle.word_wrapper.proofs.Pulling.{sound-sum, sound-within, sound-spaces, emptied-fits, emptied_next}
use native.Mathlib.Omega.{arith}
use Rattle.word_wrapper.proofs.WordWrapper.emit_or_append.Goals as goal

pub is_full-requires : goal.is_full-requires
is_full-requires c = rw c.pending.ensures (omega (arith, sound-sum, sound-within))

pub emit_row-left-requires : goal.emit_row-left-requires
emit_row-left-requires c = search sound-spaces

pub append_or_drop-requires : goal.append_or_drop-requires
append_or_drop-requires c = (search emptied-fits, search emptied_next)

pub append_glyph-requires : goal.append_glyph-requires
append_glyph-requires c = omega (arith, sound-sum, sound-within)
