-- Not in the papers: the number that is printed of a call's outcome.
use Rattle.std.specs.Prelude.{ℕ}
use Rattle.refuse.specs.Refusal.{refusal_number}
use Rattle.test_trials.specs.declared.outcome.Outcome.{Outcome}
use Rattle.test_trials.specs.declared.outcome.Outcome.TheVariants.{Accepted, Refused, Misread, Unparsed}

-- the number of an outcome: 0, the refusal's, or one that no refusal has
abbrev pub outcome_number : Outcome → ℕ
outcome_number Accepted = 0
outcome_number (Refused why) = refusal_number why
outcome_number Misread = 98
outcome_number Unparsed = 99
