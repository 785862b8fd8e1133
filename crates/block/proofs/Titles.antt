-- A test of every record, each head of which opens a title, is a test of the titles.
use Prim.Native.Nat.{ℕ, suc}
use mathlib.Core.Path.{◌≡◌, refl, ap, ◌∙◌}
use mathlib.Core.Bool.{Bool, true, false, cond, ◌&&◌, ◌||◌}
use mathlib.Core.List.{List, [], ◌∷◌}
use Rattle.text.specs.declared.TitlePosition.{TitlePosition}
use Rattle.text.specs.Record.{is_head}
use Rattle.text.specs.Line.{TextLine, until_head, lines_from}
use Rattle.text.specs.Lists.{some}
use Rattle.block.specs.declared.Block.{Block}
use Rattle.block.specs.Inner.{title_is_at, has_title_at}

abbrev pub of_head : (ℕ → Bool) → TextLine → Bool
of_head test line = test line.head

abbrev pub of_record : (ℕ → Bool) → ℕ → Bool
of_record test r = is_head r && test r

-- some title's head passes a test if and only if some record is a head and passes it
pub heads-tested : (test : ℕ → Bool) (number : ℕ) (rs : List ℕ) → some (of_record test) rs ≡ some (of_head test) (lines_from number rs)
heads-tested test number [] = refl
heads-tested test number (r ∷ rs) = go (is_head r) (heads-tested test (suc number) rs)
  where
    go : (b : Bool) → some (of_record test) rs ≡ some (of_head test) (lines_from (suc number) rs)
        → ((b && test r) || some (of_record test) rs) ≡ some (of_head test) (cond b (record { head = r; first = suc number; records = until_head rs } ∷ lines_from (suc number) rs) (lines_from (suc number) rs))
    go true ih = ap (λ (t : Bool). test r || t) ih
    go false ih = ih

pub titles_tested : (b : Block) (titles : List ℕ) (position : TitlePosition) (x : Bool)
    → x ≡ some (of_record (title_is_at b position)) titles → x ≡ has_title_at b titles position
unfolding has_title_at
titles_tested b titles position x e = e ∙ heads-tested (title_is_at b position) 0 titles
