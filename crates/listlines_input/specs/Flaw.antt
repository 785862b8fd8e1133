-- Document 01, 'Small notices by hand': the number of a refusal.
use Rattle.std.specs.Prelude.{ℕ}
use Rattle.refuse.specs.Refusal.{refusal_number}
use Rattle.listlines_input.specs.declared.Flaw.{Flaw}
use Rattle.listlines_input.specs.declared.Flaw.TheVariants.{Form, Listed}

-- "first 0 for an incomplete input or trim byte above 1, then 3 above 4,096 records, then the table's"
abbrev pub flaw_number : Flaw → ℕ
flaw_number Form = 0
flaw_number (Listed why) = refusal_number why
