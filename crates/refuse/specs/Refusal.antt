-- Document 01, 'Why a call is refused': "Lowest number first, of those a call has inputs for."
use Rattle.std.specs.Prelude.{ℕ, suc, Bool, cond, List, [], ◌∷◌, eqb, Result, Ok, Err, ⊤}
use Rattle.refuse.specs.declared.Refusal.{Refusal}
use Rattle.refuse.specs.declared.Refusal.TheVariants.{Screen, Styles, TextLength, TextHeads, Titles, StyleNumber, Symbol, Limit, ListLength}

-- the table's numbers
abbrev pub refusal_number : Refusal → ℕ
refusal_number Screen = 1
refusal_number Styles = 2
refusal_number TextLength = 3
refusal_number TextHeads = 4
refusal_number Titles = 5
refusal_number StyleNumber = 6
refusal_number Symbol = 7
refusal_number Limit = 8
refusal_number ListLength = 9

-- what the checks of a call return: nothing, or the cause of the refusal
abbrev pub Verdict : Type 0
Verdict = Result ⊤ Refusal

-- the number of a verdict or of an answer: 0 if the call is accepted
abbrev pub verdict_number : {A : Type 0} → Result A Refusal → ℕ
verdict_number (Ok answer) = 0
verdict_number (Err why) = refusal_number why

-- the order in which all calls check causes: the table's. A cause added later gets its place here, whatever its number.
abbrev pub cause_order : List Refusal
cause_order = Screen ∷ Styles ∷ TextLength ∷ TextHeads ∷ Titles ∷ StyleNumber ∷ Symbol ∷ Limit ∷ ListLength ∷ []

-- the place of a cause in a list, counted from the place given; 0 if absent
abbrev pub place_from : ℕ → List Refusal → Refusal → ℕ
place_from place [] why = 0
place_from place (first ∷ later) why = cond (eqb (refusal_number first) (refusal_number why)) place (place_from (suc place) later why)

abbrev pub refusal_place : Refusal → ℕ
refusal_place why = place_from 1 cause_order why

-- a cause, and whether it holds for the inputs of a call
pub record Cause : Type 0 where
  pub why : Refusal
  pub holds : Bool

infixl 80 ◌if◌
abbrev pub ◌if◌ : Refusal → Bool → Cause
why if b = record { why = why; holds = b }

-- The verdict of a list of causes: the first that holds. Each call lists its causes in the order above, so that this is the cause
-- at the lowest place (theorem `in_order`).
abbrev pub first_cause : List Cause → Verdict
first_cause [] = Ok tt
first_cause (cause ∷ causes) = cond cause.holds (Err cause.why) (first_cause causes)

-- the table's column 'Returned', for answers of any form: the answer of an accepted call, or the cause of the refusal
abbrev pub answering_by : {A B : Type 0} → (A → B) → (Refusal → B) → Verdict → A → B
answering_by accepted refused (Ok _) answer = accepted answer
answering_by accepted refused (Err why) answer = refused why

-- the column as calls return it: `Ok` with the answer, or `Err` with the cause
abbrev pub answering : {A : Type 0} → Verdict → A → Result A Refusal
answering verdict answer = answering_by Ok Err verdict answer

-- the table's last column, 'Left': the new value if the call is accepted, the old one if it is refused. Also used for counts,
-- with 0 as the old value ("counts 0").
abbrev pub unless_refused : {A : Type 0} → Verdict → A → A → A
unless_refused (Ok _) new old = new
unless_refused (Err why) new old = old
