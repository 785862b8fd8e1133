-- Some records pass a test if and only if the count of those that do isn't 0.
use Prim.Native.Nat.{ℕ, ◌+◌}
use mathlib.Core.Path.{◌≡◌, refl, ap, ◌∙◌}
use mathlib.Core.Bool.{Bool, true, false, cond, ◌||◌}
use mathlib.Core.List.{List, [], ◌∷◌}
use native.Mathlib.Nat.{zero-add}
use native.Mathlib.Omega.{arith}
use borrow.Author.Tests.{lt-ltb}
use lib.Dec.{ltb}
use Rattle.std.specs.Prelude.{count_by}
use Rattle.text.specs.Lists.{count_of, some}
use Rattle.text.proofs.Counting.{counted}

some-counted : (test : ℕ → Bool) (records : List ℕ) → ltb 0 (count_of test records) ≡ some test records
some-counted test [] = refl
some-counted test (r ∷ rs) = go (test r) (some-counted test rs)
  where
    go : (b : Bool) → ltb 0 (count_of test rs) ≡ some test rs → ltb 0 (cond b 1 0 + count_of test rs) ≡ (b || some test rs)
    go true ih = lt-ltb 0 (1 + count_of test rs) (omega arith)
    go false ih = rw zero-add ih

pub any_counted : (test : ℕ → Bool) (records : List ℕ) (count : ℕ) → count ≡ count_by test records → ltb 0 count ≡ some test records
any_counted test records count e = ap (ltb 0) (e ∙ counted test records) ∙ some-counted test records
