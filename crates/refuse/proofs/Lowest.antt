-- "Lowest number first": in a list of causes in order, the first that holds has the lowest place, and, if all are of the table's
-- nine, the lowest number.
use Prim.Native.Nat.{ℕ, ◌<◌, ◌≤◌}
use mathlib.Core.Path.{◌≡◌, refl, ap, sym, ◌∙◌}
use mathlib.Core.Bool.{Bool, true, false, cond, ◌&&◌, and-eq-true_iff}
use mathlib.Core.List.{List, [], ◌∷◌}
use native.Mathlib.Omega.{arith}
use borrow.Author.Tests.{ltb-true}
use lib.Dec.{ltb, leb}
use Rattle.refuse.specs.declared.Refusal.{Refusal}
use Rattle.refuse.specs.declared.Refusal.TheVariants.{Screen, Styles, TextLength, TextHeads, Titles, StyleNumber, Symbol, Limit, ListLength}
use Rattle.std.specs.Prelude.{Ok, Err}
use Rattle.refuse.specs.Refusal.{Verdict, Cause, first_cause, refusal_number, refusal_place, verdict_number}

-- the places of the causes increase strictly and are above n
abbrev pub rising : ℕ → List Cause → Bool
rising n [] = true
rising n (cause ∷ causes) = ltb n (refusal_place cause.why) && rising (refusal_place cause.why) causes

-- the cause `why` is in the list and holds
pub data Holds (why : Refusal) : List Cause → Type 0 where
  here : {cause : Cause} {causes : List Cause} → cause.why ≡ why → cause.holds ≡ true → Holds why (cause ∷ causes)
  there : {cause : Cause} {causes : List Cause} → Holds why causes → Holds why (cause ∷ causes)

false_true : (b : Bool) → b ≡ false → b ≡ true → ⊥
false_true b f t = let z : ◌≡◌ {A = ℕ} 0 1 = ap (λ (x : Bool). cond x 1 0) (sym f ∙ t) in omega arith

holds-above : (n : ℕ) (causes : List Cause) (why : Refusal) → rising n causes ≡ true → Holds why causes → n < refusal_place why
holds-above n [] why up h = elim h [ ]
holds-above n (cause ∷ causes) why up (here e h) =
    let p = ltb-true n (refusal_place cause.why) ((and-eq-true_iff (ltb n (refusal_place cause.why)) _).0 up).0 in
    rw (ap refusal_place e) at p
holds-above n (cause ∷ causes) why up (there h) =
    let q = (and-eq-true_iff (ltb n (refusal_place cause.why)) (rising (refusal_place cause.why) causes)).0 up in
    let p = ltb-true n (refusal_place cause.why) q.0 in
    let m = holds-above (refusal_place cause.why) causes why q.1 h in
    omega arith

-- 0 if the call is accepted
abbrev pub verdict_place : Verdict → ℕ
verdict_place (Ok _) = 0
verdict_place (Err why) = refusal_place why

abbrev Within : Refusal → Verdict → Type 0
Within why verdict = (0 < verdict_place verdict) × (verdict_place verdict ≤ refusal_place why)

earliest-step : (b : Bool) (cause : Cause) (causes : List Cause) (why : Refusal) → cause.holds ≡ b → 0 < refusal_place cause.why
    → (Holds why causes → refusal_place cause.why < refusal_place why) → (Holds why causes → Within why (first_cause causes))
    → Holds why (cause ∷ causes) → Within why (cond b (Err cause.why) (first_cause causes))
earliest-step true cause causes why e z up rest (here p q) = (z, rw p (omega arith))
earliest-step true cause causes why e z up rest (there h) = let u = up h in (z, omega arith)
earliest-step false cause causes why e z up rest (here p q) = absurd (false_true cause.holds e q)
earliest-step false cause causes why e z up rest (there h) = rest h

-- If a cause holds, the call is refused for it or for one at a lower place.
pub first-is-earliest : (n : ℕ) (causes : List Cause) (why : Refusal) → rising n causes ≡ true → Holds why causes
    → (0 < verdict_place (first_cause causes)) × (verdict_place (first_cause causes) ≤ refusal_place why)
first-is-earliest n [] why up h = elim h [ ]
first-is-earliest n (cause ∷ causes) why up h =
    let q = (and-eq-true_iff (ltb n (refusal_place cause.why)) (rising (refusal_place cause.why) causes)).0 up in
    let p = ltb-true n (refusal_place cause.why) q.0 in
    earliest-step cause.holds cause causes why refl (omega arith)
    (holds-above (refusal_place cause.why) causes why q.1)
    (first-is-earliest (refusal_place cause.why) causes why q.1) h

-- If a call is refused for a cause, the cause is in the list and holds: "and at no other time".
pub refused_holds : (causes : List Cause) (why : Refusal) → first_cause causes ≡ Err why → Holds why causes
refused_holds [] why e = absurd (let z : ◌≡◌ {A = ℕ} 0 1 = cc in omega arith)
refused_holds (cause ∷ causes) why e = go cause.holds refl e (refused_holds causes why)
  where
    go : (b : Bool) → cause.holds ≡ b → cond b (Err cause.why) (first_cause causes) ≡ Err why → (first_cause causes ≡ Err why → Holds why causes) → Holds why (cause ∷ causes)
    go true h p rest = here {cause = cause} (cc) h
    go false h p rest = there {cause = cause} (rest p)

-- the table's nine causes have the places of their numbers
place_number : (why : Refusal) → refusal_place why ≡ refusal_number why
place_number Screen = refl
place_number Styles = refl
place_number TextLength = refl
place_number TextHeads = refl
place_number Titles = refl
place_number StyleNumber = refl
place_number Symbol = refl
place_number Limit = refl
place_number ListLength = refl

-- causes 1 to 9 have the same order by place and by number
pub rise_together : (one other : Refusal) → refusal_number one ≤ 9 → refusal_number other ≤ 9
    → ltb (refusal_place one) (refusal_place other) ≡ ltb (refusal_number one) (refusal_number other)
rise_together one other p q = rw (place_number one, place_number other)

verdict_number_lem : (verdict : Verdict) → verdict_place verdict ≡ verdict_number verdict
verdict_number_lem (Ok _) = refl
verdict_number_lem (Err why) = place_number why

-- all causes of a list are among the table's nine
abbrev pub of_the_table : List Cause → Bool
of_the_table [] = true
of_the_table (cause ∷ causes) = leb (refusal_number cause.why) 9 && of_the_table causes

-- Demand 1 for the causes of a call: if a cause holds, the call is refused at its place or an earlier one, and, if all causes are
-- among the table's nine, with its number or a lower one; a refusal is always for a cause that holds.
pub record InOrder (causes : List Cause) : Type 0 where
  pub earliest : (why : Refusal) → Holds why causes → (0 < verdict_place (first_cause causes)) × (verdict_place (first_cause causes) ≤ refusal_place why)
  pub lowest : of_the_table causes ≡ true → (why : Refusal) → Holds why causes → (0 < verdict_number (first_cause causes)) × (verdict_number (first_cause causes) ≤ refusal_number why)
  pub no_other : (why : Refusal) → first_cause causes ≡ Err why → Holds why causes

pub in_order : (causes : List Cause) → rising 0 causes ≡ true → InOrder causes
in_order causes up =
    record {
      earliest = λ why h. first-is-earliest 0 causes why up h;
      lowest = λ table why h. rw (verdict_number_lem (first_cause causes), place_number why) at (first-is-earliest 0 causes why up h);
      no_other = λ why e. refused_holds causes why e;
    }
