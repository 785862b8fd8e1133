-- Laws of a style's fields: packing loses none.
use Prim.Native.Nat.{ℕ, ◌+◌, ◌*◌, ◌/◌, ◌%◌, ◌^◌, ◌<◌}
use mathlib.Core.Path.{◌≡◌}
use mathlib.Core.Bool.{Bool, true, false, cond}
use native.Mathlib.Omega.{arith}
use lib.Dec.{eqb}
use Rattle.style.specs.Style.{Style, style_from, style_packed}

-- each field below the first bit fits in its bits
pub record Fits (s : Style) : Type 0 where
  pub foreground_fits : s.foreground < 2 ^ 8
  pub background_fits : s.background < 2 ^ 8
  pub add_fits : s.add < 2 ^ 9
  pub remove_fits : s.remove < 2 ^ 9
  pub zeros_fit : s.zeros < 2 ^ 28

bit_small : (on : Bool) → cond on 1 0 < 2
bit_small true = omega arith
bit_small false = omega arith

read_bit : (on : Bool) (bit : ℕ) → bit ≡ cond on 1 0 → eqb bit 1 ≡ on
read_bit true bit e = rw e
read_bit false bit e = rw e

-- each field, read back from the packed word; i and j are the two bits that say whether a colour is given
module _ (i j : ℕ) (hi : i < 2) (hj : j < 2) (s : Style) (h : Fits s) where
  abbrev word : ℕ
  word = i * 2 ^ 63 + s.foreground * 2 ^ 55 + j * 2 ^ 54 + s.background * 2 ^ 46 + s.add * 2 ^ 37 + s.remove * 2 ^ 28 + s.zeros

  foreground_given_back : word / 2 ^ 63 % 2 ≡ i
  foreground_given_back =
      let q : word / 2 ^ 63 ≡ i = omega (arith, h.foreground_fits, h.background_fits, h.add_fits, h.remove_fits, h.zeros_fit) in
      omega arith

  foreground_back : word / 2 ^ 55 % 2 ^ 8 ≡ s.foreground
  foreground_back =
      let q : word / 2 ^ 55 ≡ i * 2 ^ 8 + s.foreground = omega (arith, h.background_fits, h.add_fits, h.remove_fits, h.zeros_fit) in
      omega (arith, h.foreground_fits)

  background_given_back : word / 2 ^ 54 % 2 ≡ j
  background_given_back =
      let q : word / 2 ^ 54 ≡ i * 2 ^ 9 + s.foreground * 2 + j = omega (arith, h.background_fits, h.add_fits, h.remove_fits, h.zeros_fit) in
      omega arith

  background_back : word / 2 ^ 46 % 2 ^ 8 ≡ s.background
  background_back =
      let q : word / 2 ^ 46 ≡ i * 2 ^ 17 + s.foreground * 2 ^ 9 + j * 2 ^ 8 + s.background =
      omega (arith, h.add_fits, h.remove_fits, h.zeros_fit) in
      omega (arith, h.background_fits)

  add_back : word / 2 ^ 37 % 2 ^ 9 ≡ s.add
  add_back =
      let q : word / 2 ^ 37 ≡ i * 2 ^ 26 + s.foreground * 2 ^ 18 + j * 2 ^ 17 + s.background * 2 ^ 9 + s.add =
      omega (arith, h.remove_fits, h.zeros_fit) in
      omega (arith, h.add_fits)

  remove_back : word / 2 ^ 28 % 2 ^ 9 ≡ s.remove
  remove_back =
      let q : word / 2 ^ 28 ≡ i * 2 ^ 35 + s.foreground * 2 ^ 27 + j * 2 ^ 26 + s.background * 2 ^ 18 + s.add * 2 ^ 9 + s.remove =
      omega (arith, h.zeros_fit) in
      omega (arith, h.remove_fits)

  zeros_back : word % 2 ^ 28 ≡ s.zeros
  zeros_back = omega (arith, h.zeros_fit)

-- unpacking a packed style gives its fields back
pub style-unpacked : (s : Style) → Fits s → style_from (style_packed s) ≡ s
style-unpacked s h =
    let i = cond {A = ℕ} s.foreground_given 1 0 in
    let j = cond {A = ℕ} s.background_given 1 0 in
    let hi = bit_small s.foreground_given in
    let hj = bit_small s.background_given in
    rw (
      read_bit s.foreground_given _ (foreground_given_back i j hi hj s h),
      foreground_back i j hi hj s h,
      read_bit s.background_given _ (background_given_back i j hi hj s h),
      background_back i j hi hj s h,
      add_back i j hi hj s h,
      remove_back i j hi hj s h,
      zeros_back i j hi hj s h,
    )
