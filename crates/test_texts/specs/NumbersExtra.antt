-- Not in the papers: the random number generator, the same as in oracle/vectors.
use Rattle.std.specs.Prelude.{ℕ, ◌+◌, ◌*◌, ◌%◌, ◌^◌}

-- one step of a linear congruential generator
abbrev pub stepped : ℕ → ℕ → ℕ → ℕ
stepped x by plus = (x * by + plus) % 2 ^ 32

-- the next random number
abbrev pub following : ℕ → ℕ
following x = stepped x 1664525 1013904223
