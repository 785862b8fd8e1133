-- What a rule reads of a glyph: one law for each path through `fitting`, and what its answer tells.
use Prim.Native.Nat.{ℕ, ◌≤◌, ◌<◌, min}
use mathlib.Core.Path.{◌≡◌, refl, sym, ap, ◌∙◌}
use mathlib.Core.Bool.{Bool, true, false, cond, true≢false}
use native.Mathlib.Omega.{arith}
use borrow.Author.Tests.{ltb-true, ltb-false, lt-ltb, le-ltb}
use lib.Dec.{ltb}
use Rattle.text.specs.Record.{width_code_of, width_of}
use Rattle.text.proofs.Reading.{width_plain, width-most}
use Rattle.wrapping.specs.declared.Rule.{Rule}
use Rattle.std.specs.Prelude.{Option, Some, None}
use Rattle.wrapping.specs.RunsExtra.{fitting_of}

module _ (u : Rule) (r : ℕ) where
  pub fitting-fits : (w : ℕ) → w ≡ width_of u.ambiguous r → w ≤ u.limit → Some w ≡ fitting_of u r
  unfolding fitting_of
  fitting-fits w e h = rw (← e, le-ltb u.limit w h)

  -- a code that is a width within the limit
  pub fitting_plain : (code plain : ℕ) → code ≡ width_code_of r → plain ≡ min u.limit 6 → code ≤ plain → Some code ≡ fitting_of u r
  fitting_plain code plain e p h =
      fitting-fits code (width_plain u.ambiguous code r e (λ (seven : code ≡ 7). omega (arith, p))) (omega (arith, p))

  pub fitting-over : (w : ℕ) → w ≡ width_of u.ambiguous r → u.limit < w → None ≡ fitting_of u r
  unfolding fitting_of
  fitting-over w e h = rw (← e, lt-ltb u.limit w h)

pub ruleset fittings = (fitting_plain, fitting-over, fitting-fits)

-- ---- what the answer tells

abbrev fits : Option ℕ → Bool
fits (Some w) = true
fits None = false

abbrev cells_in : Option ℕ → ℕ
cells_in (Some w) = w
cells_in None = 0

module _ (u : Rule) (r : ℕ) (f : Option ℕ) (e : f ≡ fitting_of u r) where
  module _ (w : ℕ) (k : f ≡ Some w) where
    fits_width : (w ≡ width_of u.ambiguous r) × (w ≤ u.limit)
    unfolding fitting_of
    fits_width = go (ltb u.limit (width_of u.ambiguous r)) refl (sym k ∙ e)
      where
        go : (b : Bool) → ltb u.limit (width_of u.ambiguous r) ≡ b → Some w ≡ cond b None (Some (width_of u.ambiguous r))
            → (w ≡ width_of u.ambiguous r) × (w ≤ u.limit)
        go true t q = absurd (true≢false (ap fits q))
        go false t q =
            let is : w ≡ width_of u.ambiguous r = ap cells_in q in
            (is, omega (arith, is, ltb-false u.limit (width_of u.ambiguous r) t))

    pub fits-read_as : w ≡ width_of u.ambiguous r
    fits-read_as = fits_width.0

    pub fits-limit : w ≤ u.limit
    fits-limit = fits_width.1

    pub fits-most : w ≤ 6
    fits-most = omega (arith, fits_width.0, width-most u.ambiguous r)

  pub over-limit : f ≡ None → u.limit < width_of u.ambiguous r
  unfolding fitting_of
  over-limit k = go (ltb u.limit (width_of u.ambiguous r)) refl (sym k ∙ e)
    where
      go : (b : Bool) → ltb u.limit (width_of u.ambiguous r) ≡ b → None ≡ cond b None (Some (width_of u.ambiguous r)) → u.limit < width_of u.ambiguous r
      go true t q = ltb-true u.limit (width_of u.ambiguous r) t
      go false t q = absurd (true≢false (sym (ap fits q)))
