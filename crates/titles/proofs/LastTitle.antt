-- Search for the last title, from the end of the records.
use Prim.Native.Nat.{ℕ, suc, ◌+◌, ◌-◌, ◌≤◌, ◌<◌}
use mathlib.Core.Path.{◌≡◌, refl, sym, ap, ◌∙◌}
use mathlib.Core.Bool.{Bool, true, false, cond}
use mathlib.Core.List.{List, [], ◌∷◌, ◌++◌}
use native.Mathlib.Omega.{arith}
use lib.ListN.{length, get_or, take, drop}
use lib.Seq.{drop-cons, take-add, length-take-le}
use Rattle.text.specs.Record.{is_head}
use Rattle.text.specs.Line.{until_head, lines_from}
use Rattle.titles.specs.PlacingExtra.{line_of, LastHead}

-- without a head, `until_head` takes all records
until_none : (number : ℕ) (rs : List ℕ) → lines_from number rs ≡ [] → until_head rs ≡ rs
until_none number [] e = refl
until_none number (r ∷ rs) e = go (is_head r) refl (until_none (suc number) rs) e
  where
    go : (b : Bool) → is_head r ≡ b → (lines_from (suc number) rs ≡ [] → until_head rs ≡ rs)
        → cond b (line_of (suc number) r (until_head rs) ∷ lines_from (suc number) rs) (lines_from (suc number) rs) ≡ [] → until_head (r ∷ rs) ≡ r ∷ rs
    go true h ih none = absurd (omega (arith, ap length none))
    go false h ih none = rw h (ap {B = List ℕ} (λ (l : List ℕ). r ∷ l) (ih none))

-- records after a head don't belong to a title before it
until_stop : (xs : List ℕ) (head : ℕ) (ys : List ℕ) → is_head head ≡ true → until_head (xs ++ (head ∷ ys)) ≡ until_head xs
until_stop [] head ys h = rw h
until_stop (x ∷ xs) head ys h = ap {B = List ℕ} (λ (l : List ℕ). cond (is_head x) [] (x ∷ l)) (until_stop xs head ys h)

-- a head with no head after it opens the last title
last-title : (number : ℕ) (xs : List ℕ) (head : ℕ) (ys : List ℕ) → is_head head ≡ true → ((n : ℕ) → lines_from n ys ≡ [])
    → lines_from number (xs ++ (head ∷ ys)) ≡ lines_from number xs ++ (line_of (number + length xs + 1) head ys ∷ [])
last-title number [] head ys h none =
    let n : number + 0 + 1 ≡ suc number = omega arith in
    rw (h, until_none (suc number) ys (none (suc number)), none (suc number), n)
last-title number (x ∷ xs) head ys h none = go (is_head x) (last-title (suc number) xs head ys h none)
  where
    n : suc number + length xs + 1 ≡ number + suc (length xs) + 1
    n = omega arith

    go : (b : Bool) → lines_from (suc number) (xs ++ (head ∷ ys)) ≡ lines_from (suc number) xs ++ (line_of (suc number + length xs + 1) head ys ∷ [])
        → cond b (line_of (suc number) x (until_head (xs ++ (head ∷ ys))) ∷ lines_from (suc number) (xs ++ (head ∷ ys))) (lines_from (suc number) (xs ++ (head ∷ ys)))
        ≡ cond b (line_of (suc number) x (until_head xs) ∷ lines_from (suc number) xs) (lines_from (suc number) xs) ++ (line_of (number + suc (length xs) + 1) head ys ∷ [])
    go true ih = rw (until_stop xs head ys h, ih, n)
    go false ih = rw n at ih

-- Before each turn: no record from `i` up to `end` is a head.
pub record Seeking (titles : List ℕ) (end i : ℕ) : Type 0 where
  pub before : i ≤ end
  pub within : end ≤ length titles
  pub none : (number : ℕ) → lines_from number (take (end - i) (drop i titles)) ≡ []

pub seeking_starts : (titles : List ℕ) (end : ℕ) → end ≤ length titles → Seeking titles end end
seeking_starts titles end h =
    let n : end - end ≡ 0 = omega arith in
    record { before = omega arith; within = h; none = λ number. rw n }

module _ (titles : List ℕ) (end i : ℕ) (s : Seeking titles end i) where
  -- a turn looks at record i - 1
  module _ (b : Bool) (some : 0 < i) (p : b ≡ is_head (get_or titles (i - 1) 0)) where
    part : take (end - (i - 1)) (drop (i - 1) titles) ≡ get_or titles (i - 1) 0 ∷ take (end - i) (drop i titles)
    part =
        let n : end - (i - 1) ≡ suc (end - i) = omega (arith, s.before) in
        let m : suc (i - 1) ≡ i = omega arith in
        rw (n, drop-cons titles (i - 1) 0 (omega (arith, s.before, s.within)), m)

    pub seeking_goes : b ≡ false → Seeking titles end (i - 1)
    seeking_goes f =
        let h : is_head (get_or titles (i - 1) 0) ≡ false = sym p ∙ f in
        record { before = omega (arith, s.before); within = s.within; none = λ number. rw (part, h) (s.none (suc number)) }

    pub seeking_finds : b ≡ true → LastHead titles end (i - 1)
    seeking_finds t =
        let at : ℕ = i - 1 in
        let head : ℕ = get_or titles at 0 in
        let rest : List ℕ = take (end - i) (drop i titles) in
        let n : end ≡ at + (end - at) = omega (arith, s.before) in
        let m : at + 1 ≡ i = omega arith in
        let split : take end titles ≡ take at titles ++ (head ∷ rest) = ap (λ (k : ℕ). take k titles) n ∙ take-add at (end - at) titles ∙ rw part in
        let k : 0 + at ≡ at = omega arith in
        let size : length (take at titles) ≡ at = length-take-le at titles (omega (arith, s.before, s.within)) in
        let found : lines_from 0 (take at titles ++ (head ∷ rest)) ≡ lines_from 0 (take at titles) ++ (line_of (0 + length (take at titles) + 1) head rest ∷ [])
        = last-title 0 (take at titles) head rest (sym p ∙ t) s.none in
        record { before = omega (arith, s.before); is_last = ap (lines_from 0) split ∙ found ∙ rw (size, k, m) }

  -- as there is a title, the loop doesn't end without a head
  pub seeking_ends : (at : ℕ) → i ≤ 0 → 0 < length (lines_from 0 (take end titles)) → LastHead titles end at
  seeking_ends at h q =
      let z : i ≡ 0 = omega arith in
      let n : end - 0 ≡ end = omega arith in
      let f : lines_from 0 (take end titles) ≡ [] = rw (z, n) at (s.none 0) in
      absurd (omega (arith, q, ap length f))

pub ruleset seeking = (seeking_starts, seeking_goes, seeking_finds, seeking_ends)
