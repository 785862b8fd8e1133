-- Document 01, 'Small notices by hand': the lines that the program `listlines` prints, as bytes. Blanks and line ends are those of
-- the example. Document 02, C-17: the fifth field.
use Rattle.std.specs.Prelude.{ℕ, zero, suc, ◌+◌, ◌/◌, ◌%◌, cond, List, [], ◌∷◌, ◌++◌, ltb}

-- the last digit of a number
abbrev pub digit : ℕ → ℕ
digit n = 48 + n % 10

-- a number of at most `most` digits in decimal, first digit first
abbrev pub in_digits : ℕ → ℕ → List ℕ
in_digits zero n = []
in_digits (suc most) n = cond (ltb n 10) (digit n ∷ []) (in_digits most (n / 10) ++ (digit n ∷ []))

-- a number in decimal; n has at most n + 1 digits
unfoldable pub decimal : ℕ → List ℕ
decimal n = in_digits (suc n) n

abbrev pub blank : ℕ
blank = 32

abbrev pub line_end : ℕ
line_end = 10

-- a number and the byte after it
unfoldable pub number_text : ℕ → ℕ → List ℕ
number_text n after = decimal n ++ (after ∷ [])

-- "It prints first, end, width, alignment of each line"; C-17: "`listlines` prints the mark as a fifth field"
unfoldable pub fields_text : ℕ → ℕ → ℕ → ℕ → ℕ → List ℕ
fields_text first end width alignment mark =
    number_text first blank ++ (number_text end blank ++ (number_text width blank ++ (number_text alignment blank ++ number_text mark line_end)))

-- "then `lines` and their count"
unfoldable pub count_text : ℕ → List ℕ
count_text count = (108 ∷ 105 ∷ 110 ∷ 101 ∷ 115 ∷ blank ∷ []) ++ number_text count line_end

-- "`refused`, a blank and the number on one line otherwise"
unfoldable pub refused_text : ℕ → List ℕ
refused_text number = (114 ∷ 101 ∷ 102 ∷ 117 ∷ 115 ∷ 101 ∷ 100 ∷ blank ∷ []) ++ number_text number line_end
