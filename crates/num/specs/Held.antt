-- Document 01, 'Inner area and frame': "all sums and differences here are held in 16 bits".
-- Subtraction of natural numbers already saturates at 0; sums saturate at 65,535 by `held`.
use Rattle.std.specs.Prelude.{ℕ, min}

abbrev pub held : ℕ → ℕ
held n = min n 65535
