-- Lists of glyphs split into the part dropped and the part kept.
use Prim.Native.Nat.{ℕ, suc, ◌+◌, ◌-◌}
use mathlib.Core.Path.{◌≡◌, refl, ap}
use mathlib.Core.Bool.{Bool, true, false, cond, not, ◌||◌}
use mathlib.Core.List.{List, [], ◌∷◌, ◌++◌, append_assoc}
use native.Mathlib.Omega.{arith}
use lib.Dec.{leb}
use lib.ListN.{length, drop}
use Rattle.text.specs.declared.AmbiguousWidth.{AmbiguousWidth}
use Rattle.text.specs.Line.{Glyph, numbered}
use Rattle.wrapping.specs.declared.Rule.{Rule}
use Rattle.wrapping.specs.Wrapping.{Pending, empty, is_over_wide, takes_spaces, gathered, unjoined, fitting, after_fitting, not_over_wide}

pub numbered-append : (a : AmbiguousWidth) (i : ℕ) (xs ys : List ℕ) → numbered a i (xs ++ ys) ≡ numbered a i xs ++ numbered a (i + length xs) ys
numbered-append a i [] ys = let n : i + 0 ≡ i = omega arith in rw n
numbered-append a i (x ∷ xs) ys =
    let n : i + suc (length xs) ≡ suc i + length xs = omega arith in
    rw (n, numbered-append a (suc i) xs ys)

pub narrow-append : (u : Rule) (a b : List Glyph) → not_over_wide u (a ++ b) ≡ not_over_wide u a ++ not_over_wide u b
narrow-append u [] b = refl
narrow-append u (g ∷ a) b = both (is_over_wide u g) _ (not_over_wide u a) (not_over_wide u b) (narrow-append u a b)
  where
    both : (o : Bool) (x y z : List Glyph) → x ≡ y ++ z → cond o x (g ∷ x) ≡ cond o y (g ∷ y) ++ z
    both true x y z e = e
    both false x y z e = cc

-- a join drops `unjoined` and keeps `gathered`
pub gathered-split : (u : Rule) (t : Pending) → t.row ++ (t.spaces ++ t.word) ≡ unjoined u t ++ gathered u t
unfolding gathered unjoined takes_spaces
gathered-split u t = both u.trim t.row
  where
    both : (trim : Bool) (row : List Glyph) → row ++ (t.spaces ++ t.word)
        ≡ cond (not (empty row) || not trim) [] t.spaces ++ ((row ++ cond (not (empty row) || not trim) t.spaces []) ++ t.word)
    both true [] = refl
    both false [] = refl
    both trim (g ∷ row) = simp append_assoc

-- step 3 drops `fitting` and keeps `after_fitting`
pub fitting-split : (room : ℕ) (l : List Glyph) → l ≡ fitting room l ++ after_fitting room l
fitting-split room [] = refl
fitting-split room (g ∷ l) = both (leb g.width room) (fitting (room - g.width) l) (fitting-split (room - g.width) l)
  where
    both : (b : Bool) (x : List Glyph) → l ≡ x ++ drop (length x) l → g ∷ l ≡ cond b (g ∷ x) [] ++ drop (length (cond b (g ∷ x) [])) (g ∷ l)
    both true x e = ap (λ (k : List Glyph). g ∷ k) e
    both false x e = refl
