-- Document 01, 'Why a call is refused': a definition for each row of the table, on the inputs that it concerns.
use Rattle.std.specs.Prelude.{ℕ, ◌*◌, Bool, cond, not, ◌&&◌, ◌||◌, List, [], ◌∷◌, ◌++◌, eqb, leb, ltb, length}
use Rattle.text.specs.Record.{is_head, style_of, position_of, zeros_of}
use Rattle.text.specs.Line.{TextLine, lines_from, not_opening}
use Rattle.text.specs.Lists.{some}
use Rattle.style.specs.Style.{style_from}
use Rattle.refuse.specs.declared.Ceilings.{Ceilings}
use Rattle.refuse.specs.declared.Refusal.TheVariants.{Screen, Styles as StylesCause, TextLength, TextHeads, Limit}
use Rattle.refuse.specs.Refusal.{Cause, ◌if◌}

-- "Accepted: 512 columns, 256 rows, 64 styles, 16,384 records, 16 titles of 256 glyphs, limit 4,096."
abbrev pub most_accepted : Ceilings
most_accepted = record { columns = 512; rows = 256; styles = 64; records = 16384; titles = 16; title_glyphs = 256; limit = 4096 }

-- 1 ≤ n ≤ most
abbrev pub one_to : ℕ → ℕ → Bool
one_to most n = leb 1 n && leb n most

-- 1: "columns not 1 to 512, rows not 1 to 256, or cells not columns × rows"
unfoldable pub screen_wrong : Ceilings → ℕ → ℕ → ℕ → Bool
screen_wrong most columns rows cells =
    not (one_to most.columns columns) || not (one_to most.rows rows) || not (eqb cells (columns * rows))

-- 2: "over 64 styles, or a style's zeros not 0"
abbrev pub zeros_set : ℕ → Bool
zeros_set style = not (eqb (style_from style).zeros 0)

unfoldable pub styles_wrong : Ceilings → List ℕ → Bool
styles_wrong most styles = ltb most.styles (length styles) || some zeros_set styles

-- 3: "text over 16,384 records"
abbrev pub text_too_long : Ceilings → List ℕ → Bool
text_too_long most text = ltb most.records (length text)

-- 4: "text not empty and not opening with a head, or a head's zeros or position not 0"
abbrev pub text_head_wrong : ℕ → Bool
text_head_wrong r = is_head r && (not (eqb (zeros_of r) 0) || not (eqb (position_of r) 0))

unfoldable pub text_heads_wrong : List ℕ → Bool
text_heads_wrong text = not_opening text || some text_head_wrong text

-- 5: "titles: over 16, over 256 glyphs in one, records not empty and not opening with a head, position 3, zeros not 0"
abbrev pub too_many_glyphs : Ceilings → TextLine → Bool
too_many_glyphs most title = ltb most.title_glyphs (length title.records)

abbrev pub position_three : TextLine → Bool
position_three title = eqb (position_of title.head) 3

abbrev pub head_zeros_set : TextLine → Bool
head_zeros_set title = not (eqb (zeros_of title.head) 0)

unfoldable pub titles_wrong : Ceilings → List ℕ → Bool
titles_wrong most records =
    let titles = lines_from 0 records in
    ltb most.titles (length titles)
    || some (too_many_glyphs most) titles
    || not_opening records
    || some position_three titles
    || some head_zeros_set titles

-- 6: "where styles are lent, a style number, glyphs' included, not below their count"
abbrev pub no_style : ℕ → ℕ → Bool
no_style count number = leb count number

-- the style numbers of the glyphs among records
abbrev pub glyph_styles : List ℕ → List ℕ
glyph_styles [] = []
glyph_styles (r ∷ rs) = cond (is_head r) (glyph_styles rs) (style_of r ∷ glyph_styles rs)

abbrev pub style_numbers_wrong : ℕ → List ℕ → Bool
style_numbers_wrong count numbers = some (no_style count) numbers

-- 7: "a border or shadow symbol of 2,097,152 or more"
abbrev pub too_large : ℕ → Bool
too_large symbol = leb 2097152 symbol

abbrev pub symbols_wrong : List ℕ → Bool
symbols_wrong symbols = some too_large symbols

-- 8: "limit over 4,096, the width given to `line_count` included"
abbrev pub limit_wrong : Ceilings → ℕ → Bool
limit_wrong most limit = ltb most.limit limit

-- 9: "list shorter than the lines to write"
abbrev pub list_too_short : ℕ → ℕ → Bool
list_too_short entries lines = ltb entries lines

-- Lists of causes that several calls share. For calls with a screen and styles: 1, 2
unfoldable pub screen_causes : Ceilings → ℕ → ℕ → ℕ → List ℕ → List Cause
screen_causes most columns rows cells styles =
    Screen if screen_wrong most columns rows cells ∷ StylesCause if styles_wrong most styles ∷ []

-- for calls with a text: 3, 4
unfoldable pub text_causes : Ceilings → List ℕ → List Cause
text_causes most text = TextLength if text_too_long most text ∷ TextHeads if text_heads_wrong text ∷ []

-- for calls that compose the lines of a text at a limit: 3, 4, 8
unfoldable pub line_causes : Ceilings → List ℕ → ℕ → List Cause
line_causes most text limit = text_causes most text ++ (Limit if limit_wrong most limit ∷ [])
