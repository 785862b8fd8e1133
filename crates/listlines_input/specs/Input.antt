-- Document 01, 'Small notices by hand': the input of the program `listlines`, as a list of bytes.
use Rattle.std.specs.Prelude.{ℕ, ◌+◌, ◌-◌, ◌*◌, ◌%◌, ◌^◌, Bool, Result, Ok, Err, cond, not, ◌||◌, List, [], ◌∷◌, ◌++◌, eqb, ltb, length, get_or, drop}
use Rattle.refuse.specs.declared.Refusal.TheVariants.{TextLength}
use Rattle.listlines_input.specs.declared.Flaw.{Flaw}
use Rattle.listlines_input.specs.declared.Flaw.TheVariants.{Form, Listed}
use Rattle.listlines_input.specs.declared.Input.{Input}

-- "reads, high byte first, limit (2 bytes)"
abbrev pub limit_of : List ℕ → ℕ
limit_of input = get_or input 0 0 * 2 ^ 8 + get_or input 1 0

-- "trim (byte 0 or 1)"
abbrev pub trim_byte : List ℕ → ℕ
trim_byte input = get_or input 2 0

abbrev pub trim_of : List ℕ → Bool
trim_of input = eqb (trim_byte input) 1

-- "then records of 4 bytes"
abbrev pub high_first : ℕ → ℕ → ℕ → ℕ → ℕ
high_first a b c d = a * 2 ^ 24 + b * 2 ^ 16 + c * 2 ^ 8 + d

abbrev pub number_at : List ℕ → ℕ → ℕ
number_at bytes at = high_first (get_or bytes at 0) (get_or bytes (at + 1) 0) (get_or bytes (at + 2) 0) (get_or bytes (at + 3) 0)

abbrev pub records_from : List ℕ → List ℕ
records_from (a ∷ b ∷ c ∷ d ∷ rest) = high_first a b c d ∷ records_from rest
records_from (a ∷ b ∷ c ∷ []) = []
records_from (a ∷ b ∷ []) = []
records_from (a ∷ []) = []
records_from [] = []

unfoldable pub records_of : List ℕ → List ℕ
records_of input = records_from (drop 3 input)

-- "at most 4,096"
abbrev pub most_records : ℕ
most_records = 4096

-- "`refused`, a blank and the number on one line otherwise: first 0 for an incomplete input": one without its first three
-- bytes, or with one to three bytes after the last whole record
unfoldable pub incomplete : List ℕ → Bool
incomplete input = ltb (length input) 3 || not (eqb ((length input - 3) % 4) 0)

-- "or trim byte above 1"
abbrev pub trim_wrong : List ℕ → Bool
trim_wrong input = ltb 1 (trim_byte input)

-- "then 3 above 4,096 records": cause 3, a text that is too long
abbrev pub too_many : List ℕ → Bool
too_many input = ltb most_records (length (records_of input))

-- "then the table's": the list call's, on an input that these tests accept
unfoldable pub parsed_of : List ℕ → Result Input Flaw
parsed_of input =
    cond (incomplete input) (Err Form)
    (cond (trim_wrong input) (Err Form)
    (cond (too_many input) (Err (Listed TextLength))
    (Ok (record { limit = limit_of input; trim = trim_of input; records = length (records_of input) }))))

-- what the text slice holds after parsing: the records from its start, or what it held before if the input is refused
abbrev pub holding : Result Input Flaw → List ℕ → List ℕ → List ℕ
holding (Err flaw) records text = text
holding (Ok settings) records text = records ++ drop settings.records text
