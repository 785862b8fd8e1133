-- The line count of a text, one law for each path through `lines_at`; and `line_count` and `line_width` as sums.
use Prim.Native.Nat.{ℕ, ◌+◌}
use mathlib.Core.Path.{◌≡◌}
use mathlib.Core.Bool.{Bool}
use mathlib.Core.List.{List}
use borrow.Author.Tests.{eq-eqb, ne_eqb}
use lib.ListN.{length}
use Rattle.text.specs.declared.Alignment.TheVariants.{Left}
use Rattle.text.specs.declared.AmbiguousWidth.{AmbiguousWidth}
use Rattle.text.specs.Line.{lines_from}
use Rattle.block.specs.declared.Block.{Block}
use Rattle.block.specs.declared.Space.{Space}
use Rattle.block.specs.Inner.{horizontal_space, vertical_space}
use Rattle.wrapping.specs.Rule.{rule_of}
use Rattle.line_composer.specs.declared.Wrap.{Wrap}
use Rattle.line_composer.specs.declared.Wrap.TheVariants.{Off, On}
use Rattle.line_composer.specs.declared.Method.TheVariants.{WordWrap}
use Rattle.line_composer.specs.Lines.{lines}
use Rattle.measure_text.specs.Measures.{lines_at, both, widest, line_count, line_width}

module _ (a : AmbiguousWidth) (wrap : Wrap) (width : ℕ) (text : List ℕ) (count : ℕ) where
  pub unwrapped : (column : ℕ) → wrap ≡ Off column → count ≡ length (lines_from 0 text) → count ≡ lines_at a wrap width text
  unfolding lines_at
  unwrapped column e c = rw e c

  pub wrapped : (trim : Bool) → wrap ≡ On trim → count ≡ length (lines (rule_of a width trim) WordWrap Left text) → count ≡ lines_at a wrap width text
  unfolding lines_at
  wrapped trim e c = rw e c

pub ruleset counted = (unwrapped, wrapped)

-- `line_count` is 0 or a sum
module _ (a : AmbiguousWidth) (b : Block) (titles : List ℕ) (wrap : Wrap) (width : ℕ) (text : List ℕ) where
  pub count_none : width ≡ 0 → 0 ≡ line_count a b titles wrap width text
  unfolding line_count
  count_none e = simp (eq-eqb width 0 e)

  pub count-sum : (count : ℕ) → count ≡ lines_at a wrap width text → (taken : Space) (sum : ℕ) → taken ≡ vertical_space b titles → sum ≡ both taken
      → (width ≡ 0 → ⊥) → count + sum ≡ line_count a b titles wrap width text
  unfolding line_count
  count-sum count c taken sum t s n = rw (ne_eqb width 0 n, c, s, t)

-- `line_width` is a sum
pub width-sum : (a : AmbiguousWidth) (b : Block) (text : List ℕ) (line : ℕ) (taken : Space) (sum : ℕ) → line ≡ widest a (lines_from 0 text) → taken ≡ horizontal_space b → sum ≡ both taken
    → line + sum ≡ line_width a b text
unfolding line_width
width-sum a b text line taken sum l t s = rw (l, s, t)
