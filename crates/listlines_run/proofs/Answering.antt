-- The program's answer, from that of the parse and that of the list call.
use Prim.Native.Nat.{ℕ, ◌≤◌}
use mathlib.Core.Path.{◌≡◌, refl, sym, ap, ◌∙◌}
use mathlib.Core.Bool.{Bool, true, false, cond}
use mathlib.Core.List.{List, ◌++◌}
use native.Mathlib.Omega.{arith}
use borrow.Author.Tests.{ltb-false}
use lib.Dec.{ltb}
use lib.ListN.{length, take, drop}
use lib.Seq.{take_at}
use Rattle.std.specs.Prelude.{Result, Ok, Err, IsErrAnd}
use Rattle.refuse.specs.declared.Refusal.{Refusal}
use Rattle.refuse.specs.declared.Refusal.TheVariants.{TextLength}
use Rattle.list_lines.specs.Call.{answer_of as listAnswer, list_after}
use Rattle.listlines_input.specs.declared.Flaw.{Flaw}
use Rattle.listlines_input.specs.declared.Flaw.TheVariants.{Form, Listed}
use Rattle.listlines_input.specs.declared.Input.{Input}
use Rattle.listlines_input.specs.Input.{limit_of, trim_of, records_of, most_records, incomplete, trim_wrong, too_many, parsed_of, holding}
use Rattle.listlines_run.specs.Program.{answer_for, call_for, answer_of, list_of}

-- an error that a call hands on
pub err_of : {A : Type 0} (r : Result A Flaw) (flaw : Flaw) → IsErrAnd r (λ own. own ≡ flaw) → r ≡ Err flaw
err_of (Ok answer) flaw h = absurd h
err_of (Err own) flaw h = ap (λ f. Err f) h

-- the record count of an accepted text, in an input of n records
unfoldable pub Counted : Result Input Flaw → ℕ → Type 0
Counted (Err flaw) n = Unit {0}
Counted (Ok settings) n = (settings.records ≡ n) × (settings.records ≤ most_records)

counted_of : (a b c trim : Bool) (limit n : ℕ) → ltb most_records n ≡ c
    → Counted (cond a (Err Form) (cond b (Err Form) (cond c (Err (Listed TextLength)) (Ok (record { limit = limit; trim = trim; records = n }))))) n
unfolding Counted
counted_of true b c trim limit n e = tt
counted_of false true c trim limit n e = tt
counted_of false false true trim limit n e = tt
counted_of false false false trim limit n e = (refl, ltb-false most_records n e)

pub counted : (input : List ℕ) → Counted (parsed_of input) (length (records_of input))
unfolding parsed_of
counted input = counted_of (incomplete input) (trim_wrong input) (too_many input) (trim_of input) (limit_of input) (length (records_of input)) refl

module _ (input : List ℕ) (p : Result Input Flaw) (e : p ≡ parsed_of input) where
  pub answer_own : (flaw : Flaw) (list : List ℕ) → p ≡ Err flaw → (Err flaw ≡ answer_of input list) × (list ≡ list_of input list)
  unfolding answer_of list_of
  answer_own flaw list h = (rw (← e, h), rw (← e, h))

  module _ (settings : Input) (h : p ≡ Ok settings) (text₀ text : List ℕ) where
    known : (settings.records ≡ length (records_of input)) × (settings.records ≤ most_records)
    unfolding Counted
    known = rw (← e, h) at (counted input)

    pub text-fits : most_records ≤ length text₀ → length text ≡ length text₀ → settings.records ≤ length text
    text-fits enough kept = omega (arith, known.1)

    module _ (list₀ : List ℕ) (hold : text ≡ holding p (records_of input) text₀) where
      text-part-read : take settings.records text ≡ records_of input
      text-part-read =
          let k : text ≡ records_of input ++ drop settings.records text₀ = rw h at hold in
          ap (take settings.records) k ∙ take_at (records_of input) (drop settings.records text₀) settings.records (sym known.0)

      pub answer_listed : (l : Result ℕ Refusal) (list : List ℕ)
          → l ≡ listAnswer (call_for settings.limit settings.trim (take settings.records text) list₀) → list ≡ list_after (call_for settings.limit settings.trim (take settings.records text) list₀)
          → (answer_for l ≡ answer_of input list₀) × (list ≡ list_of input list₀)
      unfolding answer_of list_of
      answer_listed l list f g = (ap answer_for (rw text-part-read at f) ∙ rw (← e, h), (rw text-part-read at g) ∙ rw (← e, h))
