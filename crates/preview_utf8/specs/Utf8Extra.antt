-- Not in the papers: a symbol as UTF-8.
use Rattle.std.specs.Prelude.{ℕ, ◌+◌, ◌/◌, ◌%◌, ◌^◌, Bool, cond, ◌&&◌, ◌||◌, List, [], ◌∷◌, leb, ltb}

unfoldable pub in_range : ℕ → ℕ → ℕ → Bool
in_range low high n = leb low n && leb n high

-- control characters, surrogates, and numbers beyond the last code point
unfoldable pub hidden : ℕ → Bool
hidden n = ltb n 32 || (in_range 127 159 n || (in_range 55296 57343 n || ltb 1114111 n))

-- what is shown instead: U+FFFD, the replacement character
abbrev pub replacement : ℕ
replacement = 65533

unfoldable pub shown : ℕ → ℕ
shown n = cond (hidden n) replacement n

-- the Unicode standard, table 3-6: six bits in each continuation byte
abbrev pub following : ℕ → ℕ
following n = 128 + n % 2 ^ 6

unfoldable pub encoded : ℕ → List ℕ
encoded n =
    cond (ltb n (2 ^ 7)) (n ∷ [])
    (cond (ltb n (2 ^ 11)) ((192 + n / 2 ^ 6) ∷ following n ∷ [])
    (cond (ltb n (2 ^ 16)) ((224 + n / 2 ^ 12) ∷ following (n / 2 ^ 6) ∷ following n ∷ [])
    ((240 + n / 2 ^ 18) ∷ following (n / 2 ^ 12) ∷ following (n / 2 ^ 6) ∷ following n ∷ [])))

unfoldable pub utf8 : ℕ → List ℕ
utf8 n = encoded (shown n)
