-- Document 01, 'Packed fields': "A head opens a line." Holds for a text and for titles, where each line is a title.
use Rattle.std.specs.Prelude.{ℕ, suc, ◌+◌, ◌<◌, ◌^◌, ◌≡◌, Bool, false, cond, not, List, [], ◌∷◌, length}
use Rattle.text.specs.declared.AmbiguousWidth.{AmbiguousWidth}
use Rattle.text.specs.Record.{is_head, symbol_of, width_of, whitespace_of, style_of}

-- a glyph: its record number, with heads counted, and its fields, the width as read
pub record Glyph : Type 0 where
  pub number : ℕ
  pub symbol : ℕ
  pub width : ℕ
  pub whitespace : Bool
  pub style : ℕ

-- the glyph of a record. C-11: "The promise of reading a glyph's width changes, and every part that asks for a width follows."
-- Every rule that asks for a width asks a glyph.
abbrev pub glyph_from : AmbiguousWidth → ℕ → ℕ → Glyph
glyph_from ambiguous number r =
    record { number = number; symbol = symbol_of r; width = width_of ambiguous r; whitespace = whitespace_of r; style = style_of r }

-- the records as glyphs, numbered from the number given
abbrev pub numbered : AmbiguousWidth → ℕ → List ℕ → List Glyph
numbered ambiguous number [] = []
numbered ambiguous number (r ∷ rs) = glyph_from ambiguous number r ∷ numbered ambiguous (suc number) rs

-- 'Wrapping': "A list's width is its sum."
abbrev pub total : List Glyph → ℕ
total [] = 0
total (g ∷ gs) = g.width + total gs

-- a glyph and the column where it starts
pub record Start : Type 0 where
  pub start : ℕ
  pub glyph : Glyph

-- 'Rows, pages, tally': "In a composed line a glyph starts at the sum of the widths of its line's glyphs before it", counted from
-- the column given: 0, or the start column ("drawing adds the start column"). The same for a title.
abbrev pub starts_from : ℕ → List Glyph → List Start
starts_from start [] = []
starts_from start (g ∷ gs) = record { start = start; glyph = g } ∷ starts_from (start + g.width) gs

-- the records before the next head
abbrev pub until_head : List ℕ → List ℕ
until_head [] = []
until_head (r ∷ rs) = cond (is_head r) [] (r ∷ until_head rs)

-- a text line: its head, the number of the record after the head, and the records up to the next head
pub record TextLine : Type 0 where
  pub head : ℕ
  pub first : ℕ
  pub records : List ℕ

-- the text lines of these records; the first record has the given number
abbrev pub lines_from : ℕ → List ℕ → List TextLine
lines_from number [] = []
lines_from number (r ∷ rs) =
    cond (is_head r)
    (record { head = r; first = suc number; records = until_head rs } ∷ lines_from (suc number) rs)
    (lines_from (suc number) rs)

abbrev pub glyphs_of : AmbiguousWidth → TextLine → List Glyph
glyphs_of ambiguous line = numbered ambiguous line.first line.records

-- 'Rows, pages, tally': "glyphs are the records that aren't heads", numbered from the number given
abbrev pub glyphs_from : AmbiguousWidth → ℕ → List ℕ → List Glyph
glyphs_from ambiguous number [] = []
glyphs_from ambiguous number (r ∷ rs) =
    cond (is_head r)
    (glyphs_from ambiguous (suc number) rs)
    (glyph_from ambiguous number r ∷ glyphs_from ambiguous (suc number) rs)

-- 'Why a call is refused', causes 4 and 5: records "not empty and not opening with a head"
abbrev pub not_opening : List ℕ → Bool
not_opening [] = false
not_opening (r ∷ rs) = not (is_head r)

-- Preconditions of functions that read records, established by the checks of a call: the records are empty or open with a head,
abbrev pub Opens : List ℕ → Type 0
Opens records = not_opening records ≡ false

-- and are few enough that no sum of their widths or numbers overflows 32 bits
abbrev pub FewRecords : List ℕ → Type 0
FewRecords records = length records < 2 ^ 28
