-- Counting the records that pass a test, and the heads, each of which opens a line.
use Prim.Native.Nat.{ℕ, suc, ◌+◌}
use mathlib.Core.Path.{◌≡◌, refl, sym, ◌∙◌}
use mathlib.Core.Bool.{Bool, true, false, cond}
use mathlib.Core.List.{List, [], ◌∷◌}
use native.Mathlib.Omega.{arith}
use lib.ListN.{length}
use Rattle.std.specs.List.{count_by}
use Rattle.std.proofs.lemmas.List.Recursion.{is_count_by}
use Rattle.text.specs.Record.{is_head}
use Rattle.text.specs.Line.{until_head, lines_from}
use Rattle.text.specs.Lists.{count_of}

-- the library's count is the same
pub counted : {A : Type 0} (test : A → Bool) (xs : List A) → count_by test xs ≡ count_of test xs
counted test xs = sym (is_count_by (count_of test) test refl (λ x xs. go (test x) (count_of test xs)) xs)
  where
    go : (b : Bool) (n : ℕ) → cond b 1 0 + n ≡ cond b (1 + n) n
    go true n = refl
    go false n = omega arith

heads_open : (i : ℕ) (records : List ℕ) → count_of is_head records ≡ length (lines_from i records)
heads_open i [] = refl
heads_open i (r ∷ rs) = go (is_head r) (heads_open (suc i) rs)
  where
    go : (b : Bool) → count_of is_head rs ≡ length (lines_from (suc i) rs)
        → cond b 1 0 + count_of is_head rs
        ≡ length (cond b (record { head = r; first = suc i; records = until_head rs } ∷ lines_from (suc i) rs) (lines_from (suc i) rs))
    go true ih = omega (arith, ih)
    go false ih = omega (arith, ih)

pub heads_counted : (records : List ℕ) → count_by is_head records ≡ length (lines_from 0 records)
heads_counted records = counted is_head records ∙ heads_open 0 records
