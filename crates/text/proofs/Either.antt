-- A disjunction whose second test runs only if the first fails.
use Prim.Native.Nat.{ℕ}
use mathlib.Core.Path.{◌≡◌, refl, sym, ap, ◌∙◌}
use mathlib.Core.Bool.{Bool, true, false, ◌||◌, or_assoc}
use mathlib.Core.List.{List, [], ◌∷◌, ◌++◌}
use Rattle.text.specs.Lists.{some}

module _ (first later found : Bool) (e : found ≡ first) where
  pub first_holds : found ≡ true → true ≡ (first || later)
  first_holds t = rw (← e, t)

  pub later-holds : (x : Bool) → found ≡ false → x ≡ later → x ≡ (first || later)
  later-holds x f p = rw (← e, f) p

-- searching two lists, one after the other
pub some-append : {A : Type 0} (test : A → Bool) (first later : List A) → some test (first ++ later) ≡ (some test first || some test later)
some-append test [] later = refl
some-append test (x ∷ first) later =
    ap (λ (b : Bool). test x || b) (some-append test first later)
    ∙ sym (or_assoc (test x) (some test first) (some test later))

module _ (test : ℕ → Bool) (first later : List ℕ) (found : Bool) (e : found ≡ some test first) where
  pub first_has : found ≡ true → true ≡ some test (first ++ later)
  first_has t = rw (some-append test first later) (first_holds (some test first) (some test later) found e t)

  pub later_has : (x : Bool) → found ≡ false → x ≡ some test later → x ≡ some test (first ++ later)
  later_has x f p = rw (some-append test first later) (later-holds (some test first) (some test later) found e x f p)

pub ruleset either = (first_holds, later-holds, first_has, later_has)
