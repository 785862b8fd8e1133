-- Words that the rules use: counting and searching in lists.
use Rattle.std.specs.Prelude.{ℕ, ◌+◌, Bool, cond, List, [], ◌∷◌}
use Rattle.std.specs.List.{list_any}

-- the number of elements that pass a test
abbrev pub count_of : {A : Type 0} → (A → Bool) → List A → ℕ
count_of test [] = 0
count_of test (x ∷ xs) = cond (test x) 1 0 + count_of test xs

-- whether any element passes a test
abbrev pub some : {A : Type 0} → (A → Bool) → List A → Bool
some = list_any
