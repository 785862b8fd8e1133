-- Laws of `each`.
use Prim.Native.Nat.{ℕ, zero, suc, ◌+◌, ◌*◌, ◌<◌, ◌≤◌}
use mathlib.Core.Path.{◌≡◌, refl, sym, ap, ◌∙◌}
use mathlib.Core.List.{List, [], ◌++◌, append_assoc}
use native.Mathlib.Nat.{add-zero, zero-add}
use native.Mathlib.Omega.{arith}
use Rattle.pages.specs.Reading.{each}

module _ {A : Type 0} where
  -- the functions need to agree only from a to a + n
  pub each_same : (a n : ℕ) (f g : ℕ → List A) → ((k : ℕ) → a ≤ k → k < a + n → f k ≡ g k) → each a n f ≡ each a n g
  each_same a zero f g h = refl
  each_same a (suc n) f g h =
      let first : f a ≡ g a = h a (omega arith) (omega arith) in
      let rest : each (suc a) n f ≡ each (suc a) n g = each_same (suc a) n f g (λ k p q. h k (omega arith) (omega arith)) in
      cc

  nothing : (a n : ℕ) → each {A = A} a n (λ k. []) ≡ []
  nothing a zero = refl
  nothing a (suc n) = nothing (suc a) n

  pub each_none : (a n : ℕ) (f : ℕ → List A) → ((k : ℕ) → a ≤ k → k < a + n → f k ≡ []) → each a n f ≡ []
  each_none a n f h = each_same a n f (λ k. []) h ∙ nothing a n

  pub each-add : (a m n : ℕ) (f : ℕ → List A) → each a (m + n) f ≡ each a m f ++ each (a + m) n f
  each-add a zero n f = rw (zero-add, add-zero)
  each-add a (suc m) n f =
      let count : suc m + n ≡ suc (m + n) = omega arith in
      let next : a + suc m ≡ suc a + m = omega arith in
      rw (count, next, append_assoc) (ap (λ (l : List A). f a ++ l) (each-add (suc a) m n f))

  shifted : (x a n : ℕ) (f : ℕ → List A) → each (x + a) n f ≡ each a n (λ k. f (x + k))
  shifted x a zero f = refl
  shifted x a (suc n) f =
      let next : suc (x + a) ≡ x + suc a = omega arith in
      rw next (ap (λ (l : List A). f (x + a) ++ l) (shifted x (suc a) n f))

  pub each_shift : (x n : ℕ) (f : ℕ → List A) → each x n f ≡ each 0 n (λ k. f (x + k))
  each_shift x n f = ap (λ (a : ℕ). each a n f) (sym (add-zero x)) ∙ shifted x 0 n f

  -- n blocks of h indices are n * h indices
  times : (h a n : ℕ) (f : ℕ → List A) → each a n (λ p. each 0 h (λ k. f (p * h + k))) ≡ each (a * h) (n * h) f
  times h a zero f = let none : zero * h ≡ 0 = omega arith in rw none
  times h a (suc n) f =
      let count : suc n * h ≡ h + n * h = omega arith in
      let next : a * h + h ≡ suc a * h = omega arith in
      rw (count, each-add (a * h) h (n * h) f, next, times h (suc a) n f)
      (ap (λ (l : List A). l ++ each (suc a * h) (n * h) f) (sym (each_shift (a * h) h f)))

  pub each-pages : (h n : ℕ) (f : ℕ → List A) → each 0 n (λ p. each 0 h (λ k. f (p * h + k))) ≡ each 0 (n * h) f
  each-pages h n f = let first : 0 * h ≡ 0 = omega arith in rw first at (times h 0 n f)
