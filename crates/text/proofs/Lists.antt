-- Laws of counting in lists.
use Prim.Native.Nat.{suc, ◌+◌, ◌≤◌}
use mathlib.Core.Path.{◌≡◌}
use mathlib.Core.Bool.{Bool, true, false, cond}
use mathlib.Core.List.{List, [], ◌∷◌, ◌++◌}
use native.Mathlib.Omega.{arith}
use lib.ListN.{length}
use Rattle.text.specs.Lists.{count_of}

pub count-append : {A : Type 0} (test : A → Bool) (a b : List A) → count_of test (a ++ b) ≡ count_of test a + count_of test b
count-append test [] b = omega arith
count-append test (x ∷ a) b = omega (arith, count-append test a b)

pub count-few : {A : Type 0} (test : A → Bool) (xs : List A) → count_of test xs ≤ length xs
count-few test [] = omega arith
count-few test (x ∷ xs) = go (test x) (count-few test xs)
  where
    go : (b : Bool) → count_of test xs ≤ length xs → cond b 1 0 + count_of test xs ≤ suc (length xs)
    go true h = omega arith
    go false h = omega arith
