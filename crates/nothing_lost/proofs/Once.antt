-- exactly_once: every glyph of a text line is emitted, dropped or over-wide, and only once.
use Prim.Native.Nat.{ℕ, suc, ◌+◌, ◌≤◌, ◌<◌}
use mathlib.Core.Path.{◌≡◌, refl, ◌∙◌}
use mathlib.Core.Bool.{Bool, cond}
use mathlib.Core.List.{List, [], ◌∷◌}
use native.Mathlib.Omega.{arith}
use borrow.Author.Tests.{eqb-true, eqb-false, ne_eqb}
use lib.Dec.{eqb}
use lib.ListN.{length}
use Rattle.text.specs.declared.AmbiguousWidth.{AmbiguousWidth}
use Rattle.text.specs.Line.{numbered}
use Rattle.text.specs.Lists.{count_of}
use Rattle.text.proofs.Bools.{cases}
use Rattle.wrapping.specs.declared.Rule.{Rule}
use Rattle.wrapping.specs.Wrapping.{wrap, over_wides}
use Rattle.nothing_lost.specs.Glyphs.{glyphs_of_all}
use Rattle.nothing_lost.proofs.Accounted.{number_is, accounted}

numbered-none : (a : AmbiguousWidth) (n k : ℕ) (rs : List ℕ) → n < k → count_of (number_is n) (numbered a k rs) ≡ 0
numbered-none a n k [] h = refl
numbered-none a n k (r ∷ rs) h =
    rw (ne_eqb k n (λ (e : k ≡ n). omega arith)) (omega (arith, numbered-none a n (suc k) rs (omega arith)))

numbered_once : (a : AmbiguousWidth) (n k : ℕ) (rs : List ℕ) → k ≤ n → n < k + length rs → count_of (number_is n) (numbered a k rs) ≡ 1
numbered_once a n k [] h l = omega arith
numbered_once a n k (r ∷ rs) h l =
    cases (λ (b : Bool). cond b 1 0 + count_of (number_is n) (numbered a (suc k) rs) ≡ 1) (eqb k n)
    (λ e. let same = eqb-true k n e in omega (arith, numbered-none a n (suc k) rs (omega arith)))
    (λ e. let other = eqb-false k n e in omega (arith, numbered_once a n (suc k) rs (omega arith) (omega arith)))

pub exactly_once : (u : Rule) (k : ℕ) (rs : List ℕ) → 0 < u.limit → (n : ℕ) → k ≤ n → n < k + length rs →
    count_of (number_is n) (glyphs_of_all (wrap u (numbered u.ambiguous k rs)).lines) + count_of (number_is n) (wrap u (numbered u.ambiguous k rs)).dropped
    + count_of (number_is n) (over_wides u (numbered u.ambiguous k rs))
    ≡ 1
exactly_once u k rs h n from below = accounted u (numbered u.ambiguous k rs) h (number_is n) ∙ numbered_once u.ambiguous n k rs from below
