-- Not in the papers: numbers read from bytes, high byte first.
use Rattle.std.specs.Prelude.{ℕ, zero, suc, ◌+◌, ◌-◌, ◌*◌, ◌^◌, cond, List, [], ◌∷◌, ltb, ℤ, pos, negsuc, get_or}

unfoldable pub number2 : List ℕ → ℕ → ℕ
number2 bytes at = get_or bytes at 0 * 2 ^ 8 + get_or bytes (at + 1) 0

unfoldable pub number4 : List ℕ → ℕ → ℕ
number4 bytes at = number2 bytes at * 2 ^ 16 + number2 bytes (at + 2)

unfoldable pub number8 : List ℕ → ℕ → ℕ
number8 bytes at = number4 bytes at * 2 ^ 32 + number4 bytes (at + 4)

-- 32 bits as two's complement: n from 2^31 on is n - 2^32, which is -1 - (2^32 - 1 - n)
unfoldable pub signed : ℕ → ℤ
signed n = cond (ltb n (2 ^ 31)) (pos n) (negsuc (2 ^ 32 - 1 - n))

-- n consecutive numbers of `size` bytes each, the first at offset `at`
abbrev pub numbers_from : (ℕ → ℕ) → ℕ → ℕ → ℕ → List ℕ
numbers_from read size at zero = []
numbers_from read size at (suc n) = read at ∷ numbers_from read size (at + size) n
