-- Not in the papers: what a read whose bytes are discarded does to the bytes that an input has left.
use Rattle.std.specs.Prelude.{ℕ, ◌%◌, ◌<◌, ◌^◌, ◌≡◌, List, length, IfSome}
use Rattle.std.specs.Io.KnownBytes.{Consumes, IsAtEnd}
use Rattle.std.specs.declared.option.Option.{Option}

-- `count` bytes are skipped, and none only at the end
pub record Skipped (old new : Option (List ℕ)) (count : ℕ) : Type 0 where
  pub bytes : List ℕ
  pub consumed : Consumes old new bytes
  pub counted : length bytes ≡ count
  pub ended : count ≡ 0 → IsAtEnd new

-- the count of the bytes that are left, modulo 4, of an input that isn't endless
abbrev pub LeftOver : Option (List ℕ) → ℕ → Type 0
LeftOver left over = IfSome left (λ bytes. length bytes < 2 ^ 64 → over ≡ length bytes % 4)
