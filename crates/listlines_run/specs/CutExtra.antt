-- Not in the papers: where the program `listlines` cuts an input longer than its buffer.
use Rattle.std.specs.Prelude.{ℕ, ◌+◌, ◌-◌, ◌*◌, ◌%◌, ◌<◌, ◌≤◌, ◌≡◌, List, length, take}

-- size of the buffer: room for one record more than is accepted and three bytes after it
abbrev pub buffered : ℕ
buffered = 3 + 4 * 4097 + 3

-- a cut of `full` bytes, of an input with `over` more bytes, modulo 4: at most three bytes before their end
pub record Cut (full over at : ℕ) : Type 0 where
  pub within : at ≤ full
  pub late : full ≤ at + 3
  pub same : at % 4 ≡ (full + over) % 4

-- what is kept of an input in a buffer: its first `at` bytes, all of them if they leave room in the buffer, and else cut
pub record Kept (full : ℕ) (input : List ℕ) (at : ℕ) (buffer : List ℕ) : Type 0 where
  pub start : take at buffer ≡ take at input
  pub all : length input < full → at ≡ length input
  pub cut : full ≤ length input → Cut full ((length input - full) % 4) at
