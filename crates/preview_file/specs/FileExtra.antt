-- Not in the papers: the packed form of a notice, as a list of bytes; the first comment of src/lib.rt gives its layout.
use Rattle.std.specs.Prelude.{ℕ, ◌+◌, ◌*◌, ◌≤◌, ◌^◌, ◌≡◌, Bool, cond, not, ◌||◌, Result, Ok, Err, List, ◌++◌, eqb, ltb, length, get_or, drop}
use Rattle.flat.specs.declared.FlatArea.{FlatArea}
use Rattle.flat.specs.declared.FlatBlock.{FlatBlock}
use Rattle.flat.specs.declared.FlatText.{FlatText}
use Rattle.preview_file.specs.declared.Opening.{Opening}
use Rattle.preview_file.specs.declared.Symbols.{Symbols}
use Rattle.preview_file.specs.declared.Paddings.{Paddings}
use Rattle.preview_file.specs.declared.Flaw.{Flaw}
use Rattle.preview_file.specs.declared.Flaw.TheVariants.{Length, Mark, Short, Styles, Titles, Text, Rest}
use Rattle.preview_file.specs.NumbersExtra.{number2, number4, number8, signed, numbers_from}

-- maxima of bytes, styles, title records and text records
abbrev pub most_bytes : ℕ
most_bytes = 131072

abbrev pub most_styles : ℕ
most_styles = 256

abbrev pub most_titles : ℕ
most_titles = 8192

abbrev pub most_text : ℕ
most_text = 24576

-- "NTC1"
abbrev pub mark : ℕ
mark = 78 * 2 ^ 24 + 84 * 2 ^ 16 + 67 * 2 ^ 8 + 49

unfoldable pub unmarked : List ℕ → Bool
unmarked bytes = ltb (length bytes) 4 || not (eqb (number4 bytes 0) mark)

abbrev pub area_in : List ℕ → FlatArea
area_in bytes = record { x = number2 bytes 8; y = number2 bytes 10; width = number2 bytes 12; height = number2 bytes 14 }

unfoldable pub symbols_in : List ℕ → Symbols
symbols_in bytes =
    record {
      top_left = number4 bytes 16;
      top_right = number4 bytes 20;
      bottom_left = number4 bytes 24;
      bottom_right = number4 bytes 28;
      vertical_left = number4 bytes 32;
      vertical_right = number4 bytes 36;
      horizontal_top = number4 bytes 40;
      horizontal_bottom = number4 bytes 44;
      shadow = number4 bytes 48;
    }

unfoldable pub paddings_in : List ℕ → Paddings
paddings_in bytes = record { left = number2 bytes 60; right = number2 bytes 62; top = number2 bytes 64; bottom = number2 bytes 66 }

unfoldable pub block_in : List ℕ → FlatBlock
block_in bytes =
    let symbols = symbols_in bytes in
    let padding = paddings_in bytes in
    record {
      top_left = symbols.top_left;
      top_right = symbols.top_right;
      bottom_left = symbols.bottom_left;
      bottom_right = symbols.bottom_right;
      vertical_left = symbols.vertical_left;
      vertical_right = symbols.vertical_right;
      horizontal_top = symbols.horizontal_top;
      horizontal_bottom = symbols.horizontal_bottom;
      shadow_symbol = symbols.shadow;
      shadow_x = signed (number4 bytes 52);
      shadow_y = signed (number4 bytes 56);
      padding_left = padding.left;
      padding_right = padding.right;
      padding_top = padding.top;
      padding_bottom = padding.bottom;
      border_top = get_or bytes 68 0;
      border_right = get_or bytes 69 0;
      border_bottom = get_or bytes 70 0;
      border_left = get_or bytes 71 0;
      border_style = get_or bytes 72 0;
      style = get_or bytes 73 0;
      titles_style = get_or bytes 74 0;
      titles_alignment = get_or bytes 75 0;
      titles_position = get_or bytes 76 0;
      shadow = get_or bytes 77 0;
      shadow_style = get_or bytes 78 0;
    }

-- the form doesn't say how ambiguous glyphs are read: 1, narrow
unfoldable pub text_fields_in : List ℕ → FlatText
text_fields_in bytes =
    record {
      scroll = number2 bytes 79;
      column = number2 bytes 81;
      style = get_or bytes 83 0;
      text_style = get_or bytes 84 0;
      alignment = get_or bytes 85 0;
      wrap = get_or bytes 86 0;
      ambiguous = 1;
    }

-- size of the fields before the styles
abbrev pub opening_bytes : ℕ
opening_bytes = 93

unfoldable pub opening_in : List ℕ → Opening
opening_in bytes =
    record {
      columns = number2 bytes 4;
      rows = number2 bytes 6;
      area = area_in bytes;
      block = block_in bytes;
      text = text_fields_in bytes;
      styles = number2 bytes 87;
      titles = number2 bytes 89;
      records = number2 bytes 91;
    }

-- offsets of the title records, the text records and the end
abbrev pub titles_at : Opening → ℕ
titles_at o = opening_bytes + 8 * o.styles

abbrev pub text_at : Opening → ℕ
text_at o = titles_at o + 4 * o.titles

abbrev pub end_at : Opening → ℕ
end_at o = text_at o + 4 * o.records

-- result of the checks of an opening, in an input of `bytes` bytes
unfoldable pub judged : ℕ → Opening → Result Opening Flaw
judged bytes o =
    cond (ltb most_styles o.styles) (Err Styles)
    (cond (ltb most_titles o.titles) (Err Titles)
    (cond (ltb most_text o.records) (Err Text)
    (cond (ltb bytes (end_at o)) (Err Short)
    (cond (ltb (end_at o) bytes) (Err Rest)
    (Ok o)))))

-- an opening that passes the checks
pub record SizesFit (bytes : ℕ) (o : Opening) : Type 0 where
  pub styles_in : o.styles ≤ most_styles
  pub titles_in : o.titles ≤ most_titles
  pub text_in : o.records ≤ most_text
  pub whole : end_at o ≡ bytes

unfoldable pub parsed_of : List ℕ → Result Opening Flaw
parsed_of bytes =
    cond (ltb most_bytes (length bytes)) (Err Length)
    (cond (unmarked bytes) (Err Mark)
    (cond (ltb (length bytes) opening_bytes) (Err Short)
    (judged (length bytes) (opening_in bytes))))

-- the slices for styles, titles and text after reading: filled from the start, or unchanged if the input is bad
abbrev pub styles_held : Result Opening Flaw → List ℕ → List ℕ → List ℕ
styles_held (Err flaw) bytes old = old
styles_held (Ok o) bytes old = numbers_from (number8 bytes) 8 opening_bytes o.styles ++ drop o.styles old

abbrev pub titles_held : Result Opening Flaw → List ℕ → List ℕ → List ℕ
titles_held (Err flaw) bytes old = old
titles_held (Ok o) bytes old = numbers_from (number4 bytes) 4 (titles_at o) o.titles ++ drop o.titles old

abbrev pub text_held : Result Opening Flaw → List ℕ → List ℕ → List ℕ
text_held (Err flaw) bytes old = old
text_held (Ok o) bytes old = numbers_from (number4 bytes) 4 (text_at o) o.records ++ drop o.records old
