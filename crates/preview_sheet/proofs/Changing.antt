-- The loop that changes each entry of a list by another list's entry at its index.
use Prim.Native.Nat.{ℕ, ◌+◌, ◌<◌, ◌≤◌, min}
use mathlib.Core.Path.{◌≡◌, refl, sym, ap, ◌∙◌}
use mathlib.Core.Bool.{Bool, true, false}
use mathlib.Core.List.{List, [], ◌∷◌, ◌++◌, append-nil}
use native.Mathlib.Numerals.{add-one}
use native.Mathlib.Omega.{arith}
use borrow.Author.Tests.{ltb-true, ltb-false}
use lib.Dec.{ltb}
use lib.ListN.{length, get_or, set, take, drop, length-set, take-append-drop, drop_of_length-le}
use lib.Seq.{take_all, take-suc-set, drop-set-lt, drop-cons, append_snoc}
use Rattle.preview_sheet.specs.WidthsExtra.{changed_by}

-- an empty other list changes nothing
unchanged : (f : ℕ → ℕ → ℕ) (xs : List ℕ) → changed_by f xs [] ≡ xs
unchanged f [] = refl
unchanged f (x ∷ xs) = refl

-- loop invariant: before each turn the first i entries are changed, and changing the rest gives the whole result
pub record Changing (f : ℕ → ℕ → ℕ) (old others new : List ℕ) (i : ℕ) : Type 0 where
  pub kept : length new ≡ length old
  pub left : take i new ++ changed_by f (drop i new) (drop i others) ≡ changed_by f old others

module _ (f : ℕ → ℕ → ℕ) (old others : List ℕ) where
  pub changing_starts : Changing f old others old 0
  changing_starts = record { kept = refl; left = refl }

  module _ (new : List ℕ) (i : ℕ) (c : Changing f old others new i) where
    pub changing_length : length new ≡ length old
    changing_length = c.kept

    changing_step : i < length new → i < length others → Changing f old others (set new i (f (get_or new i 0) (get_or others i 0))) (i + 1)
    changing_step h k =
        let x = get_or new i 0 in
        let y = get_or others i 0 in
        let newer = set new i (f x y) in
        let rest = changed_by f (drop (i + 1) new) (drop (i + 1) others) in
        let turn : changed_by f (drop i new) (drop i others) ≡ f x y ∷ rest =
        rw (drop-cons new i 0 h, drop-cons others i 0 k, add-one i) refl in
        let taken : take (i + 1) newer ≡ take i new ++ (f x y ∷ []) = rw (add-one i) (take-suc-set new i (f x y) h) in
        record {
          kept = length-set new i (f x y) ∙ c.kept;
          left =
              ap (λ (xs : List ℕ). take (i + 1) newer ++ changed_by f xs (drop (i + 1) others)) (drop-set-lt (i + 1) new i (f x y) (omega arith))
              ∙ ap (λ (xs : List ℕ). xs ++ rest) taken
              ∙ append_snoc (take i new) (f x y) rest
              ∙ ap (◌++◌ (take i new)) (sym turn)
              ∙ c.left;
        }

    pub changing_ends : length new ≤ i → new ≡ changed_by f old others
    changing_ends h =
        sym (take_all i new h) ∙ sym (append-nil (take i new))
        ∙ ap (λ (xs : List ℕ). take i new ++ changed_by f xs (drop i others)) (sym (drop_of_length-le new h))
        ∙ c.left

    pub changing_stops : length others ≤ i → new ≡ changed_by f old others
    changing_stops h =
        sym (take-append-drop i new)
        ∙ ap (◌++◌ (take i new)) (sym (unchanged f (drop i new)) ∙ ap (changed_by f (drop i new)) (sym (drop_of_length-le others h)))
        ∙ c.left

    -- the same with the new value as a function returns it
    pub changing_goes : i < length new → i < length others → (v : ℕ) → v ≡ f (get_or new i 0) (get_or others i 0) → Changing f old others (set new i v) (i + 1)
    changing_goes h k v e = rw e (changing_step h k)

    -- the shorter list has ended
    pub changing_done : min (length others) (length old) ≤ i → new ≡ changed_by f old others
    changing_done h = go (ltb i (length new)) (ltb-true i (length new)) (ltb-false i (length new))
      where
        go : (t : Bool) → (t ≡ true → i < length new) → (t ≡ false → length new ≤ i) → new ≡ changed_by f old others
        go true e g = changing_stops (omega (arith, e refl, c.kept))
        go false e g = changing_ends (g refl)

pub ruleset changing = (changing_starts, changing_length, changing_goes)
