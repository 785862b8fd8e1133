-- What follows if a call is accepted, and what it answers in each case.
use Prim.Native.Nat.{ℕ}
use mathlib.Core.Path.{◌≡◌, refl}
use mathlib.Core.Bool.{Bool, true, false, cond}
use mathlib.Core.List.{List, [], ◌∷◌}
use native.Mathlib.Omega.{arith}
use lib.Dec.{eqb}
use Rattle.refuse.specs.declared.Refusal.{Refusal}
use Rattle.std.specs.Prelude.{Result, Ok, Err}
use Rattle.refuse.specs.Refusal.{Verdict, Cause, first_cause, refusal_number, verdict_number, answering_by, answering, unless_refused}

-- if a call is accepted, its first cause doesn't hold and the remaining ones accept it
passed : (why : Refusal) (holds : Bool) (others : Verdict) → cond holds (Err why) others ≡ Ok tt → (holds ≡ false) × (others ≡ Ok tt)
passed why true others e = absurd (let z : ◌≡◌ {A = ℕ} 0 1 = cc in omega arith)
passed why false others e = (refl, e)

-- whether the cause `why` is in a list and holds
abbrev pub holds_for : Refusal → List Cause → Bool
holds_for why [] = false
holds_for why (cause ∷ causes) = cond (eqb (refusal_number cause.why) (refusal_number why)) cause.holds (holds_for why causes)

-- if a call is accepted, no cause holds
pub no_cause : (causes : List Cause) (why : Refusal) → first_cause causes ≡ Ok tt → holds_for why causes ≡ false
no_cause [] why a = refl
no_cause (cause ∷ causes) why a =
    let p = passed cause.why cause.holds (first_cause causes) a in
    go (eqb (refusal_number cause.why) (refusal_number why)) p.0 (no_cause causes why p.1)
  where
    go : (same : Bool) → cause.holds ≡ false → holds_for why causes ≡ false → cond same cause.holds (holds_for why causes) ≡ false
    go true now later = now
    go false now later = later

-- the number in an answer is the verdict's
pub answered-number : {A B : Type 0} (accepted : A → B) (refused : Refusal → B) (number : B → ℕ)
    → ((a : A) → number (accepted a) ≡ 0) → ((why : Refusal) → number (refused why) ≡ refusal_number why)
    → (verdict : Verdict) (answer : A) → number (answering_by accepted refused verdict answer) ≡ verdict_number verdict
answered-number accepted refused number p q (Ok _) answer = p answer
answered-number accepted refused number p q (Err why) answer = q why

-- the value in an answer is that of an accepted call, or `none`
pub answered_value : {A B C : Type 0} (accepted : A → B) (refused : Refusal → B) (value : B → C) (of : A → C) (none : C)
    → ((a : A) → value (accepted a) ≡ of a) → ((why : Refusal) → value (refused why) ≡ none)
    → (verdict : Verdict) (answer : A) → value (answering_by accepted refused verdict answer) ≡ unless_refused verdict (of answer) none
answered_value accepted refused value of none p q (Ok _) answer = p answer
answered_value accepted refused value of none p q (Err why) answer = q why

-- the same for answers that are a `Result`
pub result_number : {A : Type 0} (verdict : Verdict) (answer : A) → verdict_number (answering verdict answer) ≡ verdict_number verdict
result_number verdict answer = answered-number Ok Err verdict_number (λ a. refl) (λ why. refl) verdict answer

pub result_value : {A C : Type 0} (value : Result A Refusal → C) (of : A → C) (none : C)
    → ((a : A) → value (Ok a) ≡ of a) → ((why : Refusal) → value (Err why) ≡ none)
    → (verdict : Verdict) (answer : A) → value (answering verdict answer) ≡ unless_refused verdict (of answer) none
result_value value of none p q verdict answer = answered_value Ok Err value of none p q verdict answer
