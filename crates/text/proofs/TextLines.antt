-- Laws of the lines that heads open: where a line ends, and which records follow it.
use Prim.Native.Nat.{ℕ, suc, ◌+◌, ◌-◌, ◌≤◌, ◌<◌}
use mathlib.Core.Path.{◌≡◌, refl, sym, ap, ◌∙◌}
use mathlib.Core.Bool.{Bool, true, false, cond}
use mathlib.Core.List.{List, [], ◌∷◌}
use native.Mathlib.Numerals.{add-one}
use native.Mathlib.Omega.{arith}
use borrow.Author.Tests.{not-false, ltb-false}
use lib.Dec.{ltb}
use lib.ListN.{length, get_or, take, drop, length-drop}
use lib.Seq.{drop-cons, length-take-le, drop-drop, get_or-drop, take_all}
use Rattle.std.specs.Prelude.{Some, None}
use Rattle.std.specs.List.{position, position_or_len}
use Rattle.std.specs.Option.{unwrap_or}
use Rattle.std.proofs.lemmas.List.Recursion.{is_position_or_len}
use Rattle.text.specs.Record.{is_head}
use Rattle.text.specs.Line.{until_head, lines_from, Opens}

-- a line's records are the first ones after its head
pub until_short : (rs : List ℕ) → length (until_head rs) ≤ length rs
until_short [] = omega arith
until_short (r ∷ rs) = go (is_head r) (until_short rs)
  where
    go : (b : Bool) → length (until_head rs) ≤ length rs → length (cond b [] (r ∷ until_head rs)) ≤ suc (length rs)
    go true h = omega arith
    go false h = omega arith

-- the records before the next head are as many as those before the first record that is a head
until-position : (after : List ℕ) → position_or_len is_head after ≡ length (until_head after)
until-position after = sym (is_position_or_len (λ rs. length (until_head rs)) is_head refl (λ r rs. go (is_head r) r rs) after)
  where
    go : (b : Bool) (r : ℕ) (rs : List ℕ) → length (cond b [] (r ∷ until_head rs)) ≡ cond b 0 (1 + length (until_head rs))
    go true r rs = refl
    go false r rs = omega arith

-- and all of them, where none is a head
pub line_measured : (after : List ℕ) → unwrap_or (position is_head after) (length after) ≡ length (until_head after)
line_measured after = go (ltb (position_or_len is_head after) (length after)) (ltb-false _ _)
  where
    go : (b : Bool) → (b ≡ false → length after ≤ position_or_len is_head after)
        → unwrap_or (cond b (Some (position_or_len is_head after)) None) (length after) ≡ length (until_head after)
    go true h = until-position after
    go false h = omega (arith, h refl, until-position after, until_short after)

pub until_take : (rs : List ℕ) → take (length (until_head rs)) rs ≡ until_head rs
until_take [] = refl
until_take (r ∷ rs) = go (is_head r) (until_take rs)
  where
    go : (b : Bool) → take (length (until_head rs)) rs ≡ until_head rs → take (length (cond b [] (r ∷ until_head rs))) (r ∷ rs) ≡ cond b [] (r ∷ until_head rs)
    go true h = refl
    go false h = ap {B = List ℕ} (λ (l : List ℕ). r ∷ l) h

module _ (rs : List ℕ) (n : ℕ) (e : n ≡ length (until_head rs)) where
  pub part_length : n ≡ length (take n rs)
  part_length = sym (length-take-le n rs (omega (arith, until_short rs)))

  pub take_until_head : take n rs ≡ until_head rs
  take_until_head = rw e (until_take rs)

-- the record at index `at` is a head, or the records end there
pub record AtHead (rs : List ℕ) (at : ℕ) : Type 0 where
  pub within : at ≤ length rs
  pub head : at < length rs → is_head (get_or rs at 0) ≡ true

-- records that open with a head have it at index 0, with no glyph before it
pub opens-start : (rs : List ℕ) → Opens rs → AtHead rs 0
opens-start [] e = record { within = omega arith; head = λ (h : 0 < 0). absurd (omega arith) }
opens-start (r ∷ rs) e = record { within = omega arith; head = λ (h : 0 < suc (length rs)). not-false (is_head r) e }

pub opens-none : (rs : List ℕ) → Opens rs → until_head rs ≡ []
opens-none [] e = refl
opens-none (r ∷ rs) e = rw (not-false (is_head r) e)

-- the record after a line, if any, is a head
until_head_lem : (rs : List ℕ) → length (until_head rs) < length rs → is_head (get_or rs (length (until_head rs)) 0) ≡ true
until_head_lem [] h = absurd (omega arith)
until_head_lem (r ∷ rs) h = go (is_head r) refl (until_head_lem rs) h
  where
    go : (b : Bool) → is_head r ≡ b → (length (until_head rs) < length rs → is_head (get_or rs (length (until_head rs)) 0) ≡ true)
        → length (cond b [] (r ∷ until_head rs)) < suc (length rs) → is_head (get_or (r ∷ rs) (length (cond b [] (r ∷ until_head rs))) 0) ≡ true
    go true e ih k = e
    go false e ih k = ih (omega arith)

-- skipping the glyphs before the first head skips no line
pub lines_skip : (number : ℕ) (rs : List ℕ) → lines_from number rs ≡ lines_from (number + length (until_head rs)) (drop (length (until_head rs)) rs)
lines_skip number [] = refl
lines_skip number (r ∷ rs) = go (is_head r) refl (lines_skip (suc number) rs)
  where
    go : (b : Bool) → is_head r ≡ b → lines_from (suc number) rs ≡ lines_from (suc number + length (until_head rs)) (drop (length (until_head rs)) rs)
        → lines_from number (r ∷ rs) ≡ lines_from (number + length (cond b [] (r ∷ until_head rs))) (drop (length (cond b [] (r ∷ until_head rs))) (r ∷ rs))
    go true e ih = let z : number + 0 ≡ number = omega arith in rw z
    go false e ih = let z : number + suc (length (until_head rs)) ≡ suc number + length (until_head rs) = omega arith in rw (e, z) ih

pub end-within : (rs : List ℕ) (at : ℕ) → at < length rs → at + 1 + length (until_head (drop (at + 1) rs)) ≤ length rs
end-within rs at h = omega (arith, until_short (drop (at + 1) rs), length-drop (at + 1) rs)

-- the line of n glyphs whose head is at index `at`, and the lines after it
module _ (rs : List ℕ) (at n : ℕ) (h : at < length rs) (o : AtHead rs at) (e : n ≡ length (until_head (drop (at + 1) rs))) where
  pub next_opens : AtHead rs (at + 1 + n)
  next_opens = record {
    within = omega (arith, end-within rs at h);
    head = λ (q : at + 1 + n < length rs).
        rw (e, ← get_or-drop (at + 1) rs (length (until_head (drop (at + 1) rs))) 0) (until_head_lem (drop (at + 1) rs) (omega (arith, q, length-drop (at + 1) rs)));
  }

  pub line_first : lines_from at (drop at rs) ≡ record { head = get_or rs at 0; first = suc at; records = until_head (drop (at + 1) rs) } ∷ lines_from (at + 1 + n) (drop (at + 1 + n) rs)
  line_first =
      let d : drop at rs ≡ get_or rs at 0 ∷ drop (at + 1) rs = rw (add-one, drop-cons rs at 0) in
      let s : lines_from (suc at) (drop (at + 1) rs) ≡ lines_from (at + 1 + n) (drop (at + 1 + n) rs) =
      lines_skip (suc at) (drop (at + 1) rs) ∙ rw (← e, drop-drop, ← add-one at) in
      rw (d, o.head h, s)

-- the records from an index on, as `&records[from..]` borrows them
abbrev pub rest : List ℕ → ℕ → List ℕ
rest rs from = take (length rs - from) (drop from rs)

pub rest-drops : (rs : List ℕ) (from : ℕ) → rest rs from ≡ drop from rs
rest-drops rs from = take_all (length rs - from) (drop from rs) (omega (arith, length-drop from rs))

pub rest-within : (rs : List ℕ) (at : ℕ) → at < length rs → at + 1 + length (until_head (rest rs (at + 1))) ≤ length rs
rest-within rs at h = rw (rest-drops rs (at + 1)) (end-within rs at h)
