-- Parsing of an input: one law for each path through the tests, and the place of each record.
use Prim.Native.Nat.{ℕ, zero, suc, ◌+◌, ◌-◌, ◌*◌, ◌/◌, ◌%◌, ◌<◌, ◌≤◌}
use mathlib.Core.Path.{◌≡◌, refl, sym, ◌∙◌}
use mathlib.Core.Bool.{Bool, true, false, not}
use mathlib.Core.List.{List, [], ◌∷◌, ◌++◌}
use native.Mathlib.Nat.{zero-add, add_assoc}
use native.Mathlib.Numerals.{add-one, unary_clauses}
use native.Mathlib.Omega.{arith}
use borrow.Author.Tests.{lt-ltb, le-ltb, ltb-false}
use lib.Dec.{eqb, ltb}
use lib.ListN.{length, get_or, set, take, drop, length-append, length-take, length-drop}
use lib.Seq.{paste-suc, take-length, get_or-drop}
use Rattle.text.proofs.Bools.{neither}
use Rattle.std.specs.Prelude.{Ok, Err}
use Rattle.refuse.specs.declared.Refusal.TheVariants.{TextLength}
use Rattle.listlines_input.specs.declared.Flaw.TheVariants.{Form, Listed}
use Rattle.listlines_input.specs.Input.{limit_of, trim_of, number_at, records_from, records_of, most_records, incomplete, trim_wrong, parsed_of}

-- one record for every four bytes
from-count : (bytes : List ℕ) → length (records_from bytes) ≡ length bytes / 4
from-count [] = refl
from-count (a ∷ []) = refl
from-count (a ∷ b ∷ []) = refl
from-count (a ∷ b ∷ c ∷ []) = refl
from-count (a ∷ b ∷ c ∷ d ∷ rest) = omega (arith, from-count rest)

pub records-count : (input : List ℕ) → length (records_of input) ≡ (length input - 3) / 4
unfolding records_of
records-count input = from-count (drop 3 input) ∙ simp length-drop

-- the bytes of each record
from_at : (bytes : List ℕ) (i : ℕ) → i < length (records_from bytes) → get_or (records_from bytes) i 0 ≡ number_at bytes (4 * i)
from_at [] i h = absurd (omega arith)
from_at (a ∷ []) i h = absurd (omega arith)
from_at (a ∷ b ∷ []) i h = absurd (omega arith)
from_at (a ∷ b ∷ c ∷ []) i h = absurd (omega arith)
from_at (a ∷ b ∷ c ∷ d ∷ rest) zero h = refl
from_at (a ∷ b ∷ c ∷ d ∷ rest) (suc i) h =
    let e : 4 * suc i ≡ suc (suc (suc (suc (4 * i)))) = omega arith in
    rw e (simp unary_clauses (simp unary_clauses at (from_at rest i (omega arith))))

pub records-at : (input : List ℕ) (i : ℕ) → i < length (records_of input) → get_or (records_of input) i 0 ≡ number_at input (3 + 4 * i)
unfolding records_of
records-at input i h = from_at (drop 3 input) i h ∙ simp (get_or-drop, add_assoc)

-- loop invariant: before each turn the first i records are stored at the start of the text, and the rest of it is unchanged
pub record Storing (input text₀ text : List ℕ) (i : ℕ) : Type 0 where
  pub within : i ≤ length (records_of input)
  pub same : text ≡ take i (records_of input) ++ drop i text₀

module _ (input text₀ : List ℕ) (count : ℕ) (counted : count ≡ length (records_of input)) (fits : count ≤ length text₀) where
  pub storing_starts : Storing input text₀ text₀ 0
  storing_starts = record { within = omega arith; same = refl }

  module _ (text : List ℕ) (i : ℕ) (s : Storing input text₀ text i) where
    pub storing_length : length text ≡ length text₀
    storing_length = rw s.same (simp (length-append, length-take, length-drop) (omega (arith, s.within)))

    pub storing_reads : i < count → 3 + 4 * i + 3 < length input
    storing_reads h = omega (arith, records-count input)

    pub storing_writes : i < count → i < length text
    storing_writes h = omega (arith, storing_length)

    pub storing_goes : (v : ℕ) → i < count → v ≡ number_at input (3 + 4 * i) → Storing input text₀ (set text i v) (i + 1)
    storing_goes v h e =
        let step = simp zero-add at (paste-suc text₀ 0 (records_of input) i 0 (omega arith) (omega arith)) in
        record {
          within = omega arith;
          same = rw (s.same, e, ← records-at input i (omega arith)) (simp add-one step);
        }

    pub storing_ends : count ≤ i → text ≡ records_of input ++ drop count text₀
    storing_ends h =
        let k : i ≡ length (records_of input) = omega (arith, s.within) in
        s.same ∙ rw (k, take-length (records_of input), counted)

pub ruleset storing = (storing_starts, storing_length, storing_reads, storing_writes, storing_goes, storing_ends)

-- the result of the tests, in their order
module _ (input : List ℕ) (b : Bool) (e : b ≡ incomplete input) where
  pub parse_incomplete : b ≡ true → Err Form ≡ parsed_of input
  unfolding parsed_of
  parse_incomplete t = rw (← e, t)

  module _ (f : b ≡ false) where
    pub three_bytes : 3 ≤ length input
    unfolding incomplete
    three_bytes = ltb-false (length input) 3 (neither (ltb (length input) 3) (not (eqb ((length input - 3) % 4) 0)) (sym e ∙ f)).0

    module _ (t : Bool) (p : t ≡ trim_wrong input) where
      pub parse_trim : t ≡ true → Err Form ≡ parsed_of input
      unfolding parsed_of
      parse_trim q = rw (← e, f, ← p, q)

      module _ (q : t ≡ false) where
        pub parse_many : most_records < (length input - 3) / 4 → Err (Listed TextLength) ≡ parsed_of input
        unfolding parsed_of
        parse_many h = rw (← e, f, ← p, q, records-count, lt-ltb most_records ((length input - 3) / 4) h)

        pub parse_text : (limit : ℕ) → limit ≡ limit_of input → (length input - 3) / 4 ≤ most_records → Ok (record { limit = limit; trim = trim_of input; records = (length input - 3) / 4 }) ≡ parsed_of input
        unfolding parsed_of
        parse_text limit l h = rw (← e, f, ← p, q, records-count, le-ltb most_records ((length input - 3) / 4) h, l)

pub counted : (input : List ℕ) → (length input - 3) / 4 ≡ length (records_of input)
counted input = sym (records-count input)

pub ruleset parsing = (parse_incomplete, three_bytes, parse_trim, parse_many, parse_text, counted)
