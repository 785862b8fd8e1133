-- Sum of the titles' widths with one column after each: the loop that adds them, and that titles that fit don't saturate it.
use Prim.Native.Nat.{ℕ, ◌+◌, ◌-◌, ◌<◌, ◌≤◌}
use mathlib.Core.Path.{◌≡◌, sym, ap, ◌∙◌}
use mathlib.Core.Bool.{Bool, true, false}
use mathlib.Core.List.{List, [], ◌∷◌}
use native.Mathlib.Omega.{arith}
use Rattle.num.specs.Held.{held}
use Rattle.text.specs.declared.AmbiguousWidth.{AmbiguousWidth}
use Rattle.text.specs.Line.{Opens}
use Rattle.text.specs.LinesExtra.{cut_lines}
use Rattle.block.specs.declared.Block.{Block}
use Rattle.title.specs.Title.{title_line_width}
use Rattle.titles.specs.declared.Group.{Group}
use Rattle.titles.specs.Titles.{Title, titles_from, is_chosen, spaced_from, title_width, total_width}
use Rattle.titles.specs.PlacingExtra.{titles_of, title_of, Added}
use Rattle.titles.proofs.CutTitles.{cut_titles, cut_read}

-- ---- the loop

module _ (b : Block) (g : Group) (t : Title) (sum : ℕ) (has : Bool) (chosen : has ≡ is_chosen b g.position g.alignment t.head) where
  -- a title of the group adds its width and one column
  pub added_chosen : (width spaced next : ℕ) → has ≡ true → width ≡ title_line_width t.glyphs → spaced ≡ held (width + 1) → next ≡ held (sum + spaced) → Added b g t sum next
  added_chosen width spaced next h e f k ts = rw (← chosen, h, k, f, e)

  -- any other title adds nothing
  pub added_other : has ≡ false → Added b g t sum sum
  added_other f ts = rw (← chosen, f)

-- Before each turn: adding the titles of the lines left to `sum` gives the sum of all.
pub record Summing (a : AmbiguousWidth) (b : Block) (g : Group) (titles : List ℕ) (sum : ℕ) (left : List (ℕ × List ℕ)) : Type 0 where
  pub same : spaced_from sum (titles_of b g (cut_titles a left)) ≡ spaced_from 0 (titles_of b g (titles_from a titles))

module _ (a : AmbiguousWidth) (b : Block) (g : Group) (titles : List ℕ) where
  pub sum_starts : (left : List (ℕ × List ℕ)) → left ≡ cut_lines titles → Opens titles → Summing a b g titles 0 left
  sum_starts left e o = record { same = rw (e, cut_read a titles o) }

  module _ (sum : ℕ) (left : List (ℕ × List ℕ)) (w : Summing a b g titles sum left) where
    pub sum_goes : (line : ℕ × List ℕ) (others : List (ℕ × List ℕ)) (next : ℕ) → left ≡ line ∷ others
        → Added b g (title_of a line.0 line.1) sum next → Summing a b g titles next others
    sum_goes line others next e d =
        record {
          same =
              d (cut_titles a others)
              ∙ ap (λ (ls : List (ℕ × List ℕ)). spaced_from sum (titles_of b g (cut_titles a ls))) (sym e)
              ∙ w.same;
        }

    pub sum-ends : left ≡ [] → sum ≡ spaced_from 0 (titles_of b g (titles_from a titles))
    sum-ends e = rw e at w.same

pub ruleset summing = (added_chosen, added_other, sum_starts, sum_goes, sum-ends)

-- ---- sums that don't saturate

-- the exact sum
abbrev pub spaced_sum : List Title → ℕ
spaced_sum [] = 0
spaced_sum (t ∷ ts) = title_width t + 1 + spaced_sum ts

held_once : (sum width others : ℕ) → held (held (sum + held (width + 1)) + others) ≡ held (sum + (width + 1 + others))
held_once sum width others = omega arith

-- saturating at each step is saturating once
spaced-held : (sum : ℕ) (ts : List Title) → sum ≤ 65535 → spaced_from sum ts ≡ held (sum + spaced_sum ts)
spaced-held sum [] h = omega arith
spaced-held sum (t ∷ ts) h =
    spaced-held (held (sum + held (title_width t + 1))) ts (omega arith) ∙ held_once sum (title_width t) (spaced_sum ts)

-- the total of titles that fit into fewer than 65,534 columns is exact
pub total_plain : (ts : List Title) (columns : ℕ) → total_width ts ≤ columns → columns < 65534 → (total_width ts ≡ spaced_sum ts - 1) × (spaced_sum ts < 65535)
total_plain ts columns h k =
    let e : spaced_from 0 ts ≡ held (0 + spaced_sum ts) = spaced-held 0 ts (omega arith) in
    (omega (arith, e), omega (arith, e))
