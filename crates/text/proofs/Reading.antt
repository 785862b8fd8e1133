-- How a width is read: for each path through `width` what is read and its bound; and the bound for any record.
use Prim.Native.Nat.{ℕ, ◌≤◌}
use mathlib.Core.Path.{◌≡◌, refl}
use native.Mathlib.Omega.{arith}
use borrow.Author.Tests.{eq-eqb, ne_eqb, eqb-false}
use lib.Dec.{eqb}
use Rattle.text.specs.declared.AmbiguousWidth.{AmbiguousWidth}
use Rattle.text.specs.declared.AmbiguousWidth.TheVariants.{Narrow, Wide}
use Rattle.text.specs.Record.{width_code_of, ambiguous_cells, read_width, width_of}
use Rattle.text.proofs.Bools.{cond_cases}

pub cells-most : (a : AmbiguousWidth) (w : ℕ) → w ≡ ambiguous_cells a → w ≤ 6
cells-most Narrow w e = omega arith
cells-most Wide w e = omega arith

pub code-most : (code r : ℕ) → code ≡ width_code_of r → (code ≡ 7 → ⊥) → code ≤ 6
code-most code r e h = omega (arith, h)

module _ (a : AmbiguousWidth) (code r : ℕ) (e : code ≡ width_code_of r) where
  pub width-ambiguous : (w : ℕ) → code ≡ 7 → w ≡ ambiguous_cells a → w ≡ width_of a r
  unfolding read_width
  width-ambiguous w h f = simp (f, eq-eqb _ _ h, ← e)

  pub width_plain : (code ≡ 7 → ⊥) → code ≡ width_of a r
  unfolding read_width
  width_plain h = simp (ne_eqb _ _ h, ← e)

pub ruleset reading = (cells-most, code-most, width-ambiguous, width_plain)

-- no glyph is read as wider than 6, whatever the record's bits
pub width-most : (a : AmbiguousWidth) (r : ℕ) → width_of a r ≤ 6
unfolding read_width
width-most a r =
    cond_cases (λ (w : ℕ). w ≤ 6) (eqb (width_code_of r) 7) (ambiguous_cells a) (width_code_of r)
    (λ _. cells-most a (ambiguous_cells a) refl)
    (λ f. code-most (width_code_of r) r refl (eqb-false (width_code_of r) 7 f))
