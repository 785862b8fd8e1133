-- The product of columns and rows fits in 64 bits.
use Prim.Native.Nat.{ℕ, ◌*◌, ◌-◌, ◌<◌, ◌≤◌, ◌^◌}
use native.Mathlib.Nat.{mul-le-mul}
use native.Mathlib.Omega.{arith}

pub product_fits : (a b : ℕ) → a < 2 ^ 32 → b < 2 ^ 32 → a * b < 2 ^ 64
product_fits a b p q =
    let a-most : a ≤ 2 ^ 32 - 1 = omega arith in
    let b-most : b ≤ 2 ^ 32 - 1 = omega arith in
    omega (arith, mul-le-mul a-most b-most)
