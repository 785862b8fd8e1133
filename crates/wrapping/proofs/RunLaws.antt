-- What appending to a run gives, case by case.
use Prim.Native.Nat.{ℕ, ◌+◌, ◌≤◌}
use mathlib.Core.Path.{◌≡◌}
use native.Mathlib.Omega.{arith}
use borrow.Author.Tests.{eq-eqb, ne_eqb}
use lib.Dec.{eqb}
use Rattle.text.proofs.Bools.{cond_cases}
use Rattle.wrapping.specs.declared.Run.{Run}
use Rattle.wrapping.specs.RunsExtra.{append_run, push_run}

module _ (a b : Run) where
  pub append-first : a.end ≡ 0 → b ≡ append_run a b
  unfolding append_run
  append-first h = simp (eq-eqb _ _ h)

  pub append_second : (a.end ≡ 0 → ⊥) → b.end ≡ 0 → a ≡ append_run a b
  unfolding append_run
  append_second g h = simp (ne_eqb _ _ g, eq-eqb _ _ h)

  pub append-both : (a.end ≡ 0 → ⊥) → (b.end ≡ 0 → ⊥) → record { first = a.first; end = b.end; width = a.width + b.width } ≡ append_run a b
  unfolding append_run
  append-both g h = simp (ne_eqb _ _ g, ne_eqb _ _ h)

  pub append-width : (r : Run) → r ≡ append_run a b → r.width ≤ a.width + b.width
  unfolding append_run
  append-width r e =
      rw e
      (cond_cases Narrow (eqb a.end 0) _ _ (λ _. omega arith) (λ _. cond_cases Narrow (eqb b.end 0) _ _ (λ _. omega arith) (λ _. omega arith)))
    where
      Narrow : Run → Type 0
      Narrow q = q.width ≤ a.width + b.width

module _ (a : Run) (at w : ℕ) where
  pub push_first : a.end ≡ 0 → record { first = at; end = at + 1; width = a.width + w } ≡ push_run a at w
  unfolding push_run
  push_first h = simp (eq-eqb _ _ h)

  pub push_more : (a.end ≡ 0 → ⊥) → record { first = a.first; end = at + 1; width = a.width + w } ≡ push_run a at w
  unfolding push_run
  push_more h = simp (ne_eqb _ _ h)
