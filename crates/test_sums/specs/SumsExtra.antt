-- Not in the papers: checksums by which answers are compared. Each step multiplies by an odd number, so that answers which differ
-- in only one number, or in half of one entry, have different checksums.
use Rattle.std.specs.Prelude.{ℕ, ◌/◌, ◌%◌, ◌^◌, List, length, fold}
use Rattle.test_texts.specs.NumbersExtra.{stepped}

-- a checksum extended by a number
unfoldable pub with_number : ℕ → ℕ → ℕ
with_number sum number = stepped sum 2654435769 number

-- a checksum extended by an entry: its upper half, then its lower
unfoldable pub with_entry : ℕ → ℕ → ℕ
with_entry sum entry = with_number (with_number sum (entry / 2 ^ 32)) (entry % 2 ^ 32)

-- the checksum of entries: of their count, then of each
unfoldable pub entries_sum : List ℕ → ℕ
entries_sum entries = fold with_entry (length entries % 2 ^ 32) entries
