-- Laws of `changed`: length, elements, composition, changes of a borrowed slice, and a loop that changes one element per turn.
use Prim.Native.Nat.{ℕ, zero, suc, ◌+◌, ◌-◌, ◌<◌, ◌≤◌}
use mathlib.Core.Path.{◌≡◌, refl, ap, sym, ◌∙◌}
use mathlib.Core.Bool.{cond}
use mathlib.Core.List.{List, [], ◌∷◌, ◌++◌, append_assoc, append-nil}
use native.Mathlib.Nat.{add-zero, add-suc, suc-add, zero-add}
use native.Mathlib.Numerals.{add-one}
use native.Mathlib.Omega.{arith}
use borrow.Author.Tests.{eq-eqb, ne_eqb}
use lib.Dec.{eqb}
use lib.ListN.{length, take, drop, get_or, set, length-drop, length-set, take-append-drop}
use lib.Seq.{length-take-le, take-length, drop-length, take-suc-set, drop-set-lt, drop-cons}
use Rattle.buffer.specs.Drawing.{changed_from, changed}
use Rattle.buffer.specs.PartsExtra.{windowed}
use Rattle.buffer.proofs.Within.{within-inside, within-before, within-past}

changed_from-length : (n : ℕ) (f : ℕ → ℕ → ℕ) (xs : List ℕ) → length (changed_from n f xs) ≡ length xs
changed_from-length n f [] = refl
changed_from-length n f (x ∷ xs) = ap suc (changed_from-length (suc n) f xs)

pub length-changed : (f : ℕ → ℕ → ℕ) (xs : List ℕ) → length (changed f xs) ≡ length xs
length-changed f xs = changed_from-length 0 f xs

changed_from-at : (n : ℕ) (f : ℕ → ℕ → ℕ) (xs : List ℕ) (i : ℕ) → i < length xs → get_or (changed_from n f xs) i 0 ≡ f (n + i) (get_or xs i 0)
changed_from-at n f [] i h = absurd (omega arith)
changed_from-at n f (x ∷ xs) zero h = rw add-zero
changed_from-at n f (x ∷ xs) (suc i) h = rw (add-suc, ← suc-add) (changed_from-at (suc n) f xs i (omega arith))

pub changed-at : (f : ℕ → ℕ → ℕ) (xs : List ℕ) (i : ℕ) → i < length xs → get_or (changed f xs) i 0 ≡ f i (get_or xs i 0)
changed-at f xs i h = rw zero-add at (changed_from-at 0 f xs i h)

-- a change of a concatenation
pub changed_from-append : (n : ℕ) (f : ℕ → ℕ → ℕ) (xs ys : List ℕ) → changed_from n f (xs ++ ys) ≡ changed_from n f xs ++ changed_from (n + length xs) f ys
changed_from-append n f [] ys = rw add-zero
changed_from-append n f (x ∷ xs) ys = rw (add-suc, ← suc-add) (ap (λ (t : List ℕ). f n x ∷ t) (changed_from-append (suc n) f xs ys))

-- changes that agree on every index of the list
pub changed_from-same : (n : ℕ) (f g : ℕ → ℕ → ℕ) (xs : List ℕ) → ((i x : ℕ) → n ≤ i → i < n + length xs → f i x ≡ g i x)
    → changed_from n f xs ≡ changed_from n g xs
changed_from-same n f g [] h = refl
changed_from-same n f g (x ∷ xs) h =
    let e : f n x ≡ g n x = h n x (omega arith) (omega arith) in
    let t : changed_from (suc n) f xs ≡ changed_from (suc n) g xs = changed_from-same (suc n) f g xs (λ i y p q. h i y (omega arith) (omega arith)) in
    cc

-- the same for indices from 0
pub changed-same : (f g : ℕ → ℕ → ℕ) (xs : List ℕ) → ((i x : ℕ) → i < length xs → f i x ≡ g i x) → changed f xs ≡ changed g xs
changed-same f g xs h = changed_from-same 0 f g xs (λ i x p q. h i x (omega arith))

changed_from-none : (n : ℕ) (xs : List ℕ) → changed_from n (λ i x. x) xs ≡ xs
changed_from-none n [] = refl
changed_from-none n (x ∷ xs) = ap (λ (t : List ℕ). x ∷ t) (changed_from-none (suc n) xs)

-- a change that changes no element
pub changed-none : (xs : List ℕ) → changed (λ i x. x) xs ≡ xs
changed-none xs = changed_from-none 0 xs

-- a change that keeps every element of the list
pub changed_from_alone : (n : ℕ) (f : ℕ → ℕ → ℕ) (xs : List ℕ) → ((i x : ℕ) → n ≤ i → i < n + length xs → f i x ≡ x) → changed_from n f xs ≡ xs
changed_from_alone n f xs h = changed_from-same n f (λ i x. x) xs h ∙ changed_from-none n xs

changed_from_then : (n : ℕ) (f g : ℕ → ℕ → ℕ) (xs : List ℕ) → changed_from n g (changed_from n f xs) ≡ changed_from n (λ i x. g i (f i x)) xs
changed_from_then n f g [] = refl
changed_from_then n f g (x ∷ xs) = ap (λ (t : List ℕ). g n (f n x) ∷ t) (changed_from_then (suc n) f g xs)

-- two changes in a row compose element by element
pub changed_then : (f g : ℕ → ℕ → ℕ) (xs : List ℕ) → changed g (changed f xs) ≡ changed (λ i x. g i (f i x)) xs
changed_then f g xs = changed_from_then 0 f g xs

-- shifting the first index by a adds a to each index
changed_from_shift : (n a : ℕ) (f : ℕ → ℕ → ℕ) (xs : List ℕ) → changed_from (a + n) f xs ≡ changed_from n (λ i x. f (a + i) x) xs
changed_from_shift n a f [] = refl
changed_from_shift n a f (x ∷ xs) = ap (λ (t : List ℕ). f (a + n) x ∷ t) (rw (← add-suc) (changed_from_shift (suc n) a f xs))

-- a change of the middle part of a list
module _ (f : ℕ → ℕ → ℕ) (before part after : List ℕ) where
  abbrev first : ℕ
  first = length before

  abbrev end : ℕ
  end = length before + length part

  abbrev change : ℕ → ℕ → ℕ
  change = windowed first end f

  before_alone : changed change before ≡ before
  before_alone = changed_from_alone 0 change before (λ i x p q. simp (within-before first end i (omega arith)))

  part_shifted : changed_from first change part ≡ changed f part
  part_shifted =
      rw add-zero at (changed_from_shift 0 first change part)
      ∙ changed-same (λ i x. change (first + i) x) f part (λ i x h.
      let e : first + i - first ≡ i = omega arith in
      simp (within-inside first end (first + i) (omega arith) (omega arith), e))

  after_alone : changed_from end change after ≡ after
  after_alone = changed_from_alone end change after (λ i x p q. simp (within-past first end i (omega arith)))

  middle-changed : before ++ (changed f part ++ after) ≡ changed change (before ++ (part ++ after))
  middle-changed =
      let e : changed change (before ++ (part ++ after)) ≡ changed change before ++ changed_from first change (part ++ after) =
      rw zero-add at (changed_from-append 0 change before (part ++ after)) in
      sym (e ∙ rw (changed_from-append first change part after, before_alone, part_shifted, after_alone))

-- a slice from a up to e has e - a elements
pub part_length : (a e : ℕ) (xs : List ℕ) → a ≤ e → e ≤ length xs → length (take (e - a) (drop a xs)) ≡ e - a
part_length a e xs p q = length-take-le (e - a) (drop a xs) (simp length-drop (omega arith))

-- changing a slice borrowed from a up to e changes the whole list there and nowhere else
pub part-borrowed : (f : ℕ → ℕ → ℕ) (a e : ℕ) (xs part : List ℕ) → a ≤ e → e ≤ length xs → part ≡ changed f (take (e - a) (drop a xs))
    → take a xs ++ (part ++ drop (e - a) (drop a xs)) ≡ changed (windowed a e f) xs
part-borrowed f a e xs part p q h =
    let before-length : length (take a xs) ≡ a = length-take-le a xs (omega arith) in
    let end_is : a + (e - a) ≡ e = omega arith in
    rw h (middle-changed f (take a xs) (take (e - a) (drop a xs)) (drop (e - a) (drop a xs))
    ∙ simp (before-length, part_length a e xs p q, end_is, take-append-drop))

-- Before each turn: the first i elements are changed; changing the remaining ones gives the whole change.
pub record Changing (f : ℕ → ℕ → ℕ) (old xs : List ℕ) (i : ℕ) : Type 0 where
  pub reached : i ≤ length old
  pub same_length : length xs ≡ length old
  pub remaining : take i xs ++ changed_from i f (drop i xs) ≡ changed f old

pub changing_starts : (f : ℕ → ℕ → ℕ) (xs : List ℕ) → Changing f xs xs 0
changing_starts f xs = record { reached = omega arith; same_length = refl; remaining = refl }

module _ (f : ℕ → ℕ → ℕ) (old xs : List ℕ) (i : ℕ) (c : Changing f old xs i) where
  -- a turn changes element i
  pub changing_goes : (x : ℕ) → i < length xs → x ≡ f i (get_or xs i 0) → Changing f old (set xs i x) (i + 1)
  changing_goes x h e =
      record {
        reached = omega (arith, c.same_length);
        same_length = length-set xs i x ∙ c.same_length;
        remaining =
            rw (add-one i, take-suc-set xs i x h, drop-set-lt (suc i) xs i x (omega arith), append_assoc, e)
            (rw (drop-cons xs i 0 h) at c.remaining);
      }

  -- at the end all elements are changed
  pub changing_done : length xs ≤ i → xs ≡ changed f old
  changing_done h =
      let e : i ≡ length xs = omega (arith, c.reached, c.same_length) in
      sym (append-nil xs) ∙ rw (e, take-length xs, drop-length xs) at c.remaining

pub ruleset changing = (changing_starts, changing_goes, changing_done)

changed_from-one : (f : ℕ → ℕ) (k n : ℕ) (xs : List ℕ) → set xs n (f (get_or xs n 0)) ≡ changed_from k (λ i x. cond (eqb i (k + n)) (f x) x) xs
changed_from-one f k n [] = refl
changed_from-one f k zero (x ∷ xs) =
    let e : changed_from (suc k) (λ i y. cond (eqb i (k + 0)) (f y) y) xs ≡ xs =
    changed_from_alone (suc k) _ xs (λ i y p q. simp (ne_eqb i (k + 0) (λ e. omega arith))) in
    rw (e, eq-eqb k (k + 0) (omega arith))
changed_from-one f k (suc n) (x ∷ xs) =
    let e : k + suc n ≡ suc k + n = omega arith in
    rw (ne_eqb k (k + suc n) (λ e. omega arith), e) (ap (λ (t : List ℕ). x ∷ t) (changed_from-one f (suc k) n xs))

-- a store to one element; no change if the index is past the end
pub changed-one : (f : ℕ → ℕ) (n : ℕ) (xs : List ℕ) → set xs n (f (get_or xs n 0)) ≡ changed (λ i x. cond (eqb i n) (f x) x) xs
changed-one f n xs = rw zero-add at (changed_from-one f 0 n xs)
