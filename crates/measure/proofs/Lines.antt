-- The sums in `line_count` and `line_width` fit in 32 bits.
use Prim.Native.Nat.{ℕ, suc, ◌+◌, ◌*◌, ◌≤◌, max}
use mathlib.Core.Path.{◌≡◌}
use mathlib.Core.Bool.{Bool, true, false, cond}
use mathlib.Core.List.{List, [], ◌∷◌}
use native.Mathlib.Omega.{arith}
use mir.Val.{Fits}
use mir.Syntax.{w32}
use lib.ListN.{length}
use Rattle.text.specs.declared.Alignment.TheVariants.{Left}
use Rattle.text.specs.declared.AmbiguousWidth.{AmbiguousWidth}
use Rattle.text.specs.Record.{is_head}
use Rattle.text.specs.Line.{numbered, total, until_head, lines_from}
use Rattle.text.proofs.Reading.{width-most}
use Rattle.refuse.proofs.Accepted.{TextAccepted}
use Rattle.block.specs.declared.Block.{Block}
use Rattle.block.specs.declared.Space.{Space}
use Rattle.block.specs.Inner.{horizontal_space, vertical_space}
use Rattle.wrapping.specs.Rule.{rule_of}
use Rattle.line_composer.specs.declared.Wrap.{Wrap}
use Rattle.line_composer.specs.declared.Wrap.TheVariants.{Off, On}
use Rattle.line_composer.proofs.Bounds.{lines-short}
use Rattle.measure_text.specs.Measures.{lines_at, both, widest}

-- a text has no more text lines than records
pub text-lines-few : (i : ℕ) (rs : List ℕ) → length (lines_from i rs) ≤ length rs
text-lines-few i [] = omega arith
text-lines-few i (r ∷ rs) = go (is_head r) (text-lines-few (suc i) rs)
  where
    go : (b : Bool) → length (lines_from (suc i) rs) ≤ length rs
        → length (cond b (record { head = r; first = suc i; records = until_head rs } ∷ lines_from (suc i) rs) (lines_from (suc i) rs)) ≤ suc (length rs)
    go true h = omega arith
    go false h = omega arith

-- wrapped or not, a text has no more lines than records
lines-few : (a : AmbiguousWidth) (wrap : Wrap) (width : ℕ) (text : List ℕ) → lines_at a wrap width text ≤ length text
unfolding lines_at
lines-few a (Off column) width text = text-lines-few 0 text
lines-few a (On trim) width text = lines-short (rule_of a width trim) Left text

-- each number of a space is at most 65,535
vertical_small : (b : Block) (titles : List ℕ) → both (vertical_space b titles) ≤ 2 * 65535
unfolding vertical_space
vertical_small b titles = omega arith

horizontal_small : (b : Block) → both (horizontal_space b) ≤ 2 * 65535
unfolding horizontal_space
horizontal_small b = omega arith

-- `line_count`
module _ (a : AmbiguousWidth) (b : Block) (titles : List ℕ) (wrap : Wrap) (width : ℕ) (text : List ℕ) (count : ℕ) (c : count ≡ lines_at a wrap width text) where
  pub count_fits : TextAccepted text → Fits w32 count
  count_fits sound = record { fits = omega (arith, sound.short, lines-few a wrap width text) }

  pub count-sum-fits : (taken : Space) (sum : ℕ) → taken ≡ vertical_space b titles → sum ≡ both taken → TextAccepted text → Fits w32 (count + sum)
  count-sum-fits taken sum t s sound =
      let few : sum ≤ 2 * 65535 = rw (s, t) (vertical_small b titles) in
      record { fits = omega (arith, sound.short, lines-few a wrap width text) }

-- a line is at most 6 columns wide per record: the widest of the lines that the records open and of the one that they continue
narrow-after : (a : AmbiguousWidth) (i : ℕ) (rs : List ℕ) → max (total (numbered a i (until_head rs))) (widest a (lines_from i rs)) ≤ 6 * length rs
narrow-after a i [] = omega arith
narrow-after a i (r ∷ rs) = go (is_head r) (narrow-after a (suc i) rs)
  where
    go : (b : Bool) → max (total (numbered a (suc i) (until_head rs))) (widest a (lines_from (suc i) rs)) ≤ 6 * length rs
        → max (total (numbered a i (cond b [] (r ∷ until_head rs))))
        (widest a (cond b (record { head = r; first = suc i; records = until_head rs } ∷ lines_from (suc i) rs) (lines_from (suc i) rs)))
        ≤ 6 * suc (length rs)
    go true ih = omega arith
    go false ih = omega (arith, width-most a r)

widest-narrow : (a : AmbiguousWidth) (text : List ℕ) → widest a (lines_from 0 text) ≤ 6 * length text
widest-narrow a text = omega (arith, narrow-after a 0 text)

-- `line_width`
pub width_sum_fits : (a : AmbiguousWidth) (b : Block) (text : List ℕ) (line : ℕ) (taken : Space) (sum : ℕ) → line ≡ widest a (lines_from 0 text) → taken ≡ horizontal_space b → sum ≡ both taken
    → TextAccepted text → Fits w32 (line + sum)
width_sum_fits a b text line taken sum l t s sound =
    let few : sum ≤ 2 * 65535 = rw (s, t) (horizontal_small b) in
    record { fits = omega (arith, sound.short, widest-narrow a text) }
