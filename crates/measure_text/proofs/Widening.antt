-- The loop of `widest_line`: a text's lines measured record by record.
use Prim.Native.Nat.{ℕ, suc, ◌+◌, ◌*◌, ◌≤◌, max}
use mathlib.Core.Path.{◌≡◌}
use mathlib.Core.Bool.{Bool, true, false, cond}
use mathlib.Core.List.{List, [], ◌∷◌}
use native.Mathlib.Omega.{arith}
use lib.ListN.{length, drop}
use Rattle.text.specs.declared.AmbiguousWidth.{AmbiguousWidth}
use Rattle.text.specs.Record.{is_head}
use Rattle.text.specs.Line.{numbered, total, until_head, lines_from}
use Rattle.text.proofs.Reading.{width-most}
use Rattle.measure_text.specs.Measures.{widest}

-- the widest of the lines that the records open and of the line that they continue, of which `width` columns were read
abbrev widest_after : AmbiguousWidth → ℕ → ℕ → List ℕ → ℕ
widest_after a width i rs = max (width + total (numbered a i (until_head rs))) (widest a (lines_from i rs))

-- Invariant of `widest_line`: i records were read; `most` is the widest line so far and `width` the part read of the current one.
pub record Widening (a : AmbiguousWidth) (text : List ℕ) (most width i : ℕ) : Type 0 where
  pub within : i ≤ length text
  pub narrow : width ≤ 6 * i
  pub known : width ≤ most
  pub same : max most (widest_after a width i (drop i text)) ≡ widest a (lines_from 0 text)

-- a line is at most 6 columns wide per record
narrow-after : (a : AmbiguousWidth) (i : ℕ) (rs : List ℕ) → widest_after a 0 i rs ≤ 6 * length rs
narrow-after a i [] = omega arith
narrow-after a i (r ∷ rs) = go (is_head r) (narrow-after a (suc i) rs)
  where
    go : (b : Bool) → widest_after a 0 (suc i) rs ≤ 6 * length rs
        → max (0 + total (numbered a i (cond b [] (r ∷ until_head rs))))
        (widest a (cond b (record { head = r; first = suc i; records = until_head rs } ∷ lines_from (suc i) rs) (lines_from (suc i) rs)))
        ≤ 6 * suc (length rs)
    go true ih = omega arith
    go false ih = omega (arith, width-most a r)

pub widest-narrow : (a : AmbiguousWidth) (text : List ℕ) → widest a (lines_from 0 text) ≤ 6 * length text
widest-narrow a text = omega (arith, narrow-after a 0 text)
