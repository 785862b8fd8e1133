-- Not in the papers: bytes appended to the text in a borrowed buffer.
use Rattle.std.specs.Prelude.{ℕ, ◌+◌, ◌≡◌, List, ◌++◌, length, take, drop}

-- `new` is `old` with `bytes` at offsets `from` up to `to`, and otherwise unchanged
pub record Written (old : List ℕ) (from : ℕ) (new : List ℕ) (to : ℕ) (bytes : List ℕ) : Type 0 where
  pub moved : to ≡ from + length bytes
  pub kept : length new ≡ length old
  pub same : take to new ≡ take from old ++ bytes
  pub rest : drop to new ≡ drop to old
