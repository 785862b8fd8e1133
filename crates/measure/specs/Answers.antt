-- Document 01, 'Why a call is refused': the answers of the calls `line_count` and `line_width`.
use Rattle.std.specs.Prelude.{ℕ, Result, Ok, Err}
use Rattle.refuse.specs.declared.Refusal.{Refusal}

-- the value of an answer, 0 if refused
abbrev pub measure_answer_value : Result ℕ Refusal → ℕ
measure_answer_value (Ok value) = value
measure_answer_value (Err why) = 0
