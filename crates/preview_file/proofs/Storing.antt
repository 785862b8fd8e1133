-- Parsing and storing an input: one law for each path through the tests, and the place of each number.
use Prim.Native.Nat.{ℕ, zero, suc, ◌+◌, ◌*◌, ◌<◌, ◌≤◌}
use mathlib.Core.Path.{◌≡◌, refl, sym, ap, ◌∙◌}
use mathlib.Core.Bool.{Bool, true, false, cond}
use mathlib.Core.List.{List, ◌++◌}
use native.Mathlib.Nat.{zero-add, mul-zero, mul-suc}
use native.Mathlib.Numerals.{add-one}
use native.Mathlib.Omega.{arith}
use borrow.Author.Tests.{ltb-false}
use lib.Dec.{ltb}
use lib.ListN.{length, get_or, set, take, drop, length-append, length-take, length-drop}
use lib.Seq.{paste-suc, take-length}
use Rattle.preview_file.specs.NumbersExtra.{numbers_from}
use Rattle.preview_file.specs.declared.Opening.{Opening}
use Rattle.preview_file.specs.declared.Flaw.{Flaw}
use Rattle.preview_file.specs.declared.Flaw.TheVariants.{Length, Mark, Short, Styles, Titles, Text, Rest}
use Rattle.std.specs.Prelude.{Result, Ok, Err}
use Rattle.preview_file.specs.FileExtra.{most_bytes, most_styles, most_titles, most_text, opening_bytes, unmarked, opening_in, end_at, judged, SizesFit, parsed_of}

-- consecutive numbers and the bytes of each
module _ (read : ℕ → ℕ) (size : ℕ) where
  pub numbers_count : (at n : ℕ) → length (numbers_from read size at n) ≡ n
  numbers_count at zero = refl
  numbers_count at (suc n) = ap suc (numbers_count (at + size) n)

  step-over : (at size i : ℕ) → at + size + size * i ≡ at + size * suc i
  step-over at size i = rw (mul-suc size i) (omega arith)

  numbers_at : (at n i : ℕ) → i < n → get_or (numbers_from read size at n) i 0 ≡ read (at + size * i)
  numbers_at at zero i h = absurd (omega arith)
  numbers_at at (suc n) zero h = ap read (rw (mul-zero size) (omega arith))
  numbers_at at (suc n) (suc i) h = numbers_at (at + size) n i (omega arith) ∙ ap read (step-over at size i)

-- loop invariant: before each turn the first i numbers are stored at the start of the list, and the rest of it is unchanged
pub record Storing (all old new : List ℕ) (i : ℕ) : Type 0 where
  pub within : i ≤ length all
  pub same : new ≡ take i all ++ drop i old

module _ (read : ℕ → ℕ) (size from count : ℕ) (old : List ℕ) (fits : count ≤ length old) where
  pub storing_starts : Storing (numbers_from read size from count) old old 0
  storing_starts = record { within = omega arith; same = refl }

  module _ (new : List ℕ) (i : ℕ) (s : Storing (numbers_from read size from count) old new i) where
    pub storing_length : length new ≡ length old
    storing_length =
        rw s.same (simp (length-append, length-take, length-drop) (omega (arith, s.within, numbers_count read size from count)))

    pub storing_writes : i < count → i < length new
    storing_writes h = omega (arith, storing_length)

    pub storing_goes : (v : ℕ) → i < count → v ≡ read (from + size * i) → Storing (numbers_from read size from count) old (set new i v) (i + 1)
    storing_goes v h e =
        let n = numbers_count read size from count in
        let step = simp zero-add at (paste-suc old 0 (numbers_from read size from count) i 0 (omega (arith, n)) (omega arith)) in
        record {
          within = omega (arith, n);
          same = rw (s.same, e, ← numbers_at read size from count i h) (simp add-one step);
        }

    pub storing_ends : count ≤ i → new ≡ numbers_from read size from count ++ drop count old
    storing_ends h =
        let n = numbers_count read size from count in
        let k : i ≡ count = omega (arith, s.within, n) in
        let t : take i (numbers_from read size from count) ≡ numbers_from read size from count =
        ap (λ (m : ℕ). take m (numbers_from read size from count)) (k ∙ sym n) ∙ take-length (numbers_from read size from count) in
        s.same ∙ rw (t, k) refl

pub ruleset storing = (storing_starts, storing_length, storing_writes, storing_goes, storing_ends)

-- an opening that passes has counts within the maxima that match the input's length
abbrev Within : ℕ → Result Opening Flaw → Type 0
Within bytes (Err flaw) = Unit {0}
Within bytes (Ok o) = SizesFit bytes o

judged-within :
    (bytes : ℕ) (o : Opening) (a b c d e : Bool) →
    ltb most_styles o.styles ≡ a → ltb most_titles o.titles ≡ b → ltb most_text o.records ≡ c → ltb bytes (end_at o) ≡ d → ltb (end_at o) bytes ≡ e →
    Within bytes (cond a (Err Styles) (cond b (Err Titles) (cond c (Err Text) (cond d (Err Short) (cond e (Err Rest) (Ok o))))))
judged-within bytes o true b c d e p q r s t = tt
judged-within bytes o false true c d e p q r s t = tt
judged-within bytes o false false true d e p q r s t = tt
judged-within bytes o false false false true e p q r s t = tt
judged-within bytes o false false false false true p q r s t = tt
judged-within bytes o false false false false false p q r s t =
    record {
      styles_in = ltb-false most_styles o.styles p;
      titles_in = ltb-false most_titles o.titles q;
      text_in = ltb-false most_text o.records r;
      whole = omega (arith, ltb-false bytes (end_at o) s, ltb-false (end_at o) bytes t);
    }

parsed-within :
    (bytes : ℕ) (o : Opening) (a b c : Bool) → Within bytes (cond a (Err Length) (cond b (Err Mark) (cond c (Err Short) (judged bytes o))))
unfolding judged
parsed-within bytes o true b c = tt
parsed-within bytes o false true c = tt
parsed-within bytes o false false true = tt
parsed-within bytes o false false false =
    judged-within bytes o (ltb most_styles o.styles) (ltb most_titles o.titles) (ltb most_text o.records) (ltb bytes (end_at o)) (ltb (end_at o) bytes) refl refl refl refl refl

module _ (bytes : List ℕ) (p : Result Opening Flaw) (o : Opening) (e : p ≡ parsed_of bytes) (g : p ≡ Ok o) where
  pub good_sized : SizesFit (length bytes) o
  unfolding parsed_of
  good_sized =
      rw (← e, g) at
      (parsed-within (length bytes) (opening_in bytes) (ltb most_bytes (length bytes)) (unmarked bytes) (ltb (length bytes) opening_bytes))

pub ruleset reading = (good_sized)
