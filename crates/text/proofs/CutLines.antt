-- The lines that `Lines` gives: the first one, and what is left after it; and where records open with a head, all are the text lines.
use Prim.Native.Nat.{ℕ, suc, ◌+◌, ◌≤◌}
use mathlib.Core.Path.{◌≡◌, refl, sym, ap, ◌∙◌}
use mathlib.Core.Bool.{Bool, true, false, cond}
use mathlib.Core.List.{List, [], ◌∷◌, map}
use native.Mathlib.Omega.{arith}
use borrow.Author.Tests.{not-false}
use lib.Dec.{eqb, eqb-suc-zero}
use lib.ListN.{length, take, drop, length-map}
use Rattle.text.specs.Record.{is_head}
use Rattle.text.specs.Line.{until_head, lines_from, Opens}
use Rattle.text.specs.LinesExtra.{parts, cut_lines}
use Rattle.text.proofs.TextLines.{until_short, until_take, lines_skip}

-- the parts of lines don't have their numbers
parts-numbered : (i j : ℕ) (rs : List ℕ) → map parts (lines_from i rs) ≡ map parts (lines_from j rs)
parts-numbered i j [] = refl
parts-numbered i j (r ∷ rs) = go (is_head r) (parts-numbered (suc i) (suc j) rs)
  where
    go : (b : Bool) → map parts (lines_from (suc i) rs) ≡ map parts (lines_from (suc j) rs)
        → map parts (cond b (record { head = r; first = suc i; records = until_head rs } ∷ lines_from (suc i) rs) (lines_from (suc i) rs))
        ≡ map parts (cond b (record { head = r; first = suc j; records = until_head rs } ∷ lines_from (suc j) rs) (lines_from (suc j) rs))
    go true h = ap {B = List (ℕ × List ℕ)} (λ (l : List (ℕ × List ℕ)). (r, until_head rs) ∷ l) h
    go false h = h

-- records that open with a head are cut into their text lines
pub cut_opening : (i : ℕ) (rs : List ℕ) → Opens rs → cut_lines rs ≡ map parts (lines_from i rs)
cut_opening i [] e = refl
cut_opening i (r ∷ rs) e =
    let h : is_head r ≡ true = not-false (is_head r) e in
    rw h (ap {B = List (ℕ × List ℕ)} (λ (l : List (ℕ × List ℕ)). (r, until_head rs) ∷ l) (parts-numbered 0 (suc i) rs))

-- what stands after a line is empty or opens with a head
after-opens : (rs : List ℕ) → Opens (drop (length (until_head rs)) rs)
after-opens [] = refl
after-opens (r ∷ rs) = go (is_head r) refl (after-opens rs)
  where
    go : (b : Bool) → is_head r ≡ b → Opens (drop (length (until_head rs)) rs) → Opens (drop (length (cond b [] (r ∷ until_head rs))) (r ∷ rs))
    go true e h = rw e
    go false e h = h

pub cut_next : (r : ℕ) (rs : List ℕ) (n : ℕ) → n ≡ length (until_head rs) → cut_lines (r ∷ rs) ≡ (r, take n rs) ∷ cut_lines (drop n rs)
cut_next r rs n e =
    let rest : map parts (lines_from 0 rs) ≡ cut_lines (drop (length (until_head rs)) rs) =
    ap (map parts) (lines_skip 0 rs) ∙ sym (cut_opening (0 + length (until_head rs)) (drop (length (until_head rs)) rs) (after-opens rs)) in
    rw (e, until_take rs, rest)

pub line_within : (rs : List ℕ) (n : ℕ) → n ≡ length (until_head rs) → n ≤ length rs
line_within rs n e = omega (arith, e, until_short rs)

-- there are no more lines than records
lines-few : (i : ℕ) (rs : List ℕ) → length (lines_from i rs) ≤ length rs
lines-few i [] = omega arith
lines-few i (r ∷ rs) = go (is_head r) (lines-few (suc i) rs)
  where
    go : (b : Bool) → length (lines_from (suc i) rs) ≤ length rs
        → length (cond b (record { head = r; first = suc i; records = until_head rs } ∷ lines_from (suc i) rs) (lines_from (suc i) rs)) ≤ suc (length rs)
    go true h = omega (arith, h)
    go false h = omega (arith, h)

pub cut_few : (rs : List ℕ) → length (cut_lines rs) ≤ length rs
cut_few [] = omega arith
cut_few (r ∷ rs) = omega (arith, lines-few 0 rs, length-map (lines_from 0 rs) parts)

pub none_left : (rs : List ℕ) → eqb (length rs) 0 ≡ eqb (length (cut_lines rs)) 0
none_left [] = refl
none_left (r ∷ rs) = rw (eqb-suc-zero (length rs), eqb-suc-zero (length (map parts (lines_from 0 rs)))) refl
