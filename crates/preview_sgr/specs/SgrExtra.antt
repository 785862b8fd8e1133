-- Not in the papers: a cell's colours and modifiers as an escape sequence: Select Graphic Rendition of ECMA-48, `ESC [ 0 ; .. m`,
-- where 0 resets the style.
use Rattle.std.specs.Prelude.{ℕ, zero, suc, ◌+◌, ◌/◌, ◌%◌, cond, List, [], ◌∷◌, ◌++◌, eqb, ltb}
use Rattle.cell.specs.Cell.{cell_from}

-- a number below 1,000 in decimal
abbrev pub digit : ℕ → ℕ
digit n = 48 + n % 10

unfoldable pub decimal : ℕ → List ℕ
decimal n =
    cond (ltb n 10) (digit n ∷ [])
    (cond (ltb n 100) (digit (n / 10) ∷ digit n ∷ [])
    (digit (n / 100) ∷ digit (n / 10) ∷ digit n ∷ []))

-- `;` and the code, if the bit is 1
unfoldable pub code : ℕ → ℕ → List ℕ
code bit k = cond (eqb bit 1) (59 ∷ (48 + k) ∷ []) []

-- codes of the n lowest bits, lowest first; the first code is k
abbrev pub codes : ℕ → ℕ → ℕ → List ℕ
codes bits k zero = []
codes bits k (suc n) = code (bits % 2) k ++ codes (bits / 2) (k + 1) n

-- `;38;5;` or `;48;5;`, by its first digit, and the palette index; nothing for 0, the terminal's default
unfoldable pub colour : ℕ → ℕ → List ℕ
colour kind n = cond (eqb n 0) [] (59 ∷ kind ∷ 56 ∷ 59 ∷ 53 ∷ 59 ∷ decimal n)

-- sequence of a cell: its modifiers, then its colours; the modifiers, lowest bit first, are bold, dim, italic, underlined,
-- slow blink, rapid blink, reversed, hidden and crossed out, with codes 1 to 9
unfoldable pub sgr : ℕ → List ℕ
sgr cell =
    (27 ∷ 91 ∷ 48 ∷ [])
    ++ (codes (cell_from cell).modifiers 1 9
    ++ (colour 51 (cell_from cell).foreground
    ++ (colour 52 (cell_from cell).background
    ++ (109 ∷ []))))
