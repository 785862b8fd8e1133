-- Document 01, 'Packed fields': the fields of a cell, most significant bit first, and how a symbol and a style change them.
use Rattle.std.specs.Prelude.{ℕ, ◌+◌, ◌-◌, ◌*◌, ◌/◌, ◌%◌, ◌^◌, cond}
use Rattle.std.specs.Int.Bits.{bit_and, bit_or}
use Rattle.style.specs.Style.{Style, style_from}

-- symbol 21 | foreground 8 | background 8 | modifiers 9 | 18 bits never touched
pub record Cell : Type 0 where
  pub symbol : ℕ
  pub foreground : ℕ
  pub background : ℕ
  pub modifiers : ℕ
  pub untouched : ℕ

abbrev pub cell_from : ℕ → Cell
cell_from word =
    record {
      symbol = word / 2 ^ 43;
      foreground = word / 2 ^ 35 % 2 ^ 8;
      background = word / 2 ^ 27 % 2 ^ 8;
      modifiers = word / 2 ^ 18 % 2 ^ 9;
      untouched = word % 2 ^ 18;
    }

abbrev pub cell_packed : Cell → ℕ
cell_packed c = c.symbol * 2 ^ 43 + c.foreground * 2 ^ 35 + c.background * 2 ^ 27 + c.modifiers * 2 ^ 18 + c.untouched

-- "32 is the blank symbol"
abbrev pub blank_symbol : ℕ
blank_symbol = 32

-- "A blank cell has symbol 32 and zeros."
abbrev pub blank_cell : ℕ
blank_cell = cell_packed (record { symbol = blank_symbol; foreground = 0; background = 0; modifiers = 0; untouched = 0 })

-- a cell with its symbol replaced
unfoldable pub with_symbol : ℕ → ℕ → ℕ
with_symbol symbol cell =
    let c = cell_from cell in
    cell_packed (record { symbol = symbol; foreground = c.foreground; background = c.background; modifiers = c.modifiers; untouched = c.untouched })

-- a cell with the 18 bits "never touched" by drawing replaced
unfoldable pub with_untouched : ℕ → ℕ → ℕ
with_untouched untouched cell =
    let c = cell_from cell in
    cell_packed (record { symbol = c.symbol; foreground = c.foreground; background = c.background; modifiers = c.modifiers; untouched = untouched })

-- only the colours and modifiers of a cell
unfoldable pub appearance_of : ℕ → ℕ
appearance_of cell =
    let c = cell_from cell in
    cell_packed (record { symbol = 0; foreground = c.foreground; background = c.background; modifiers = c.modifiers; untouched = 0 })

-- "Applying it sets the given colours, then sets the add bits, then clears the remove bits."
abbrev pub colours_set : Style → Cell → Cell
colours_set s c =
    record {
      symbol = c.symbol;
      foreground = cond s.foreground_given s.foreground c.foreground;
      background = cond s.background_given s.background c.background;
      modifiers = c.modifiers;
      untouched = c.untouched;
    }

abbrev pub add_bits_set : Style → Cell → Cell
add_bits_set s c =
    record {
      symbol = c.symbol;
      foreground = c.foreground;
      background = c.background;
      modifiers = bit_or c.modifiers s.add;
      untouched = c.untouched;
    }

-- 2 ^ 9 - 1 - remove is the complement of the remove bits
abbrev pub remove_bits_cleared : Style → Cell → Cell
remove_bits_cleared s c =
    record {
      symbol = c.symbol;
      foreground = c.foreground;
      background = c.background;
      modifiers = bit_and c.modifiers (2 ^ 9 - 1 - s.remove);
      untouched = c.untouched;
    }

-- the three steps in order
abbrev pub applied : Style → Cell → Cell
applied s c = remove_bits_cleared s (add_bits_set s (colours_set s c))

-- a cell with a style applied
unfoldable pub styled : ℕ → ℕ → ℕ
styled style cell = cell_packed (applied (style_from style) (cell_from cell))
