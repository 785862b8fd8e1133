-- Laws of a cell's fields: packing loses none, and which fields a symbol and a style leave unchanged.
use Prim.Native.Nat.{ℕ, ◌+◌, ◌-◌, ◌*◌, ◌/◌, ◌%◌, ◌^◌, ◌<◌}
use mathlib.Core.Path.{◌≡◌, sym, ap, ◌∙◌}
use mathlib.Core.Bool.{Bool, true, false, cond}
use native.Mathlib.Nat.{div-div-eq-div-mul, lt_of_le_of_lt}
use native.Mathlib.Omega.{arith}
use lib.Bits.{bit_and, bit_or, and_le_l, or_lt}
use Rattle.style.specs.Style.{Style, style_from}
use Rattle.cell.specs.Cell.{Cell, cell_from, cell_packed, with_symbol, with_untouched, appearance_of, applied, styled}

-- the bits below the symbol are those of the other fields
pub below-symbol : (c : ℕ) → c % 2 ^ 43 ≡ c / 2 ^ 35 % 2 ^ 8 * 2 ^ 35 + c / 2 ^ 27 % 2 ^ 8 * 2 ^ 27 + c / 2 ^ 18 % 2 ^ 9 * 2 ^ 18 + c % 2 ^ 18
below-symbol c =
    omega (arith, div-div-eq-div-mul c (2 ^ 18) (2 ^ 9), div-div-eq-div-mul c (2 ^ 27) (2 ^ 8), div-div-eq-div-mul c (2 ^ 35) (2 ^ 8))

-- the bits below the symbol and above the untouched bits
pub between_symbol_and_untouched : (c : ℕ) → c % 2 ^ 43 / 2 ^ 18 * 2 ^ 18 ≡ c / 2 ^ 35 % 2 ^ 8 * 2 ^ 35 + c / 2 ^ 27 % 2 ^ 8 * 2 ^ 27 + c / 2 ^ 18 % 2 ^ 9 * 2 ^ 18 + 0
between_symbol_and_untouched c = omega (arith, below-symbol c)

-- each field below the symbol fits in its bits
pub record Fits (c : Cell) : Type 0 where
  pub foreground_fits : c.foreground < 2 ^ 8
  pub background_fits : c.background < 2 ^ 8
  pub modifiers_fit : c.modifiers < 2 ^ 9
  pub untouched_fits : c.untouched < 2 ^ 18

-- each field, read back from the packed word
module _ (c : Cell) (h : Fits c) where
  abbrev word : ℕ
  word = cell_packed c

  symbol_back : word / 2 ^ 43 ≡ c.symbol
  symbol_back = omega (arith, h.foreground_fits, h.background_fits, h.modifiers_fit, h.untouched_fits)

  foreground_back : word / 2 ^ 35 % 2 ^ 8 ≡ c.foreground
  foreground_back =
      let q : word / 2 ^ 35 ≡ c.symbol * 2 ^ 8 + c.foreground = omega (arith, h.background_fits, h.modifiers_fit, h.untouched_fits) in
      omega (arith, h.foreground_fits)

  background_back : word / 2 ^ 27 % 2 ^ 8 ≡ c.background
  background_back =
      let q : word / 2 ^ 27 ≡ c.symbol * 2 ^ 16 + c.foreground * 2 ^ 8 + c.background = omega (arith, h.modifiers_fit, h.untouched_fits) in
      omega (arith, h.background_fits)

  modifiers_back : word / 2 ^ 18 % 2 ^ 9 ≡ c.modifiers
  modifiers_back =
      let q : word / 2 ^ 18 ≡ c.symbol * 2 ^ 25 + c.foreground * 2 ^ 17 + c.background * 2 ^ 9 + c.modifiers = omega (arith, h.untouched_fits) in
      omega (arith, h.modifiers_fit)

  untouched_back : word % 2 ^ 18 ≡ c.untouched
  untouched_back = omega (arith, h.untouched_fits)

  -- unpacking a packed cell gives its fields back
  pub unpacked : cell_from (cell_packed c) ≡ c
  unpacked = rw (symbol_back, foreground_back, background_back, modifiers_back, untouched_back)

colour-fits : (given : Bool) (a b : ℕ) → a < 2 ^ 8 → b < 2 ^ 8 → cond given a b < 2 ^ 8
colour-fits true a b ha hb = ha
colour-fits false a b ha hb = hb

-- the fields of a styled cell fit in their bits
applied-fits : (style cell : ℕ) → Fits (applied (style_from style) (cell_from cell))
applied-fits style cell =
    record {
      foreground_fits = colour-fits (style_from style).foreground_given (style_from style).foreground (cell_from cell).foreground (omega arith) (omega arith);
      background_fits = colour-fits (style_from style).background_given (style_from style).background (cell_from cell).background (omega arith) (omega arith);
      modifiers_fit = lt_of_le_of_lt (and_le_l _ _) (or_lt 9 (cell_from cell).modifiers (style_from style).add (omega arith) (omega arith));
      untouched_fits = omega arith;
    }

-- styling changes the fields as `applied` says; symbol and untouched bits stay
pub styled_fields : (style cell : ℕ) → cell_from (styled style cell) ≡ applied (style_from style) (cell_from cell)
unfolding styled
styled_fields style cell = unpacked (applied (style_from style) (cell_from cell)) (applied-fits style cell)

pub styled-symbol : (style cell : ℕ) → (cell_from (styled style cell)).symbol ≡ (cell_from cell).symbol
styled-symbol style cell = ap (λ (c : Cell). c.symbol) (styled_fields style cell)

pub styled-untouched : (style cell : ℕ) → (cell_from (styled style cell)).untouched ≡ (cell_from cell).untouched
styled-untouched style cell = ap (λ (c : Cell). c.untouched) (styled_fields style cell)

-- setting the symbol leaves the other fields unchanged
pub symbol_fields : (symbol cell : ℕ) → cell_from (with_symbol symbol cell) ≡
    record {
      symbol = symbol;
      foreground = (cell_from cell).foreground;
      background = (cell_from cell).background;
      modifiers = (cell_from cell).modifiers;
      untouched = (cell_from cell).untouched;
    }
unfolding with_symbol
symbol_fields symbol cell =
    unpacked _ (
    record {
      foreground_fits = omega arith;
      background_fits = omega arith;
      modifiers_fit = omega arith;
      untouched_fits = omega arith;
    })

pub symbol-set : (symbol cell : ℕ) → (cell_from (with_symbol symbol cell)).symbol ≡ symbol
symbol-set symbol cell = ap (λ (c : Cell). c.symbol) (symbol_fields symbol cell)

-- setting the untouched bits leaves the other fields unchanged
pub untouched_fields : (untouched cell : ℕ) → untouched < 2 ^ 18 → cell_from (with_untouched untouched cell) ≡
    record {
      symbol = (cell_from cell).symbol;
      foreground = (cell_from cell).foreground;
      background = (cell_from cell).background;
      modifiers = (cell_from cell).modifiers;
      untouched = untouched;
    }
unfolding with_untouched
untouched_fields untouched cell h =
    unpacked _ (
    record {
      foreground_fits = omega arith;
      background_fits = omega arith;
      modifiers_fit = omega arith;
      untouched_fits = h;
    })

-- the appearance has the cell's colours and modifiers
pub appearance_fields : (cell : ℕ) → cell_from (appearance_of cell) ≡
    record {
      symbol = 0;
      foreground = (cell_from cell).foreground;
      background = (cell_from cell).background;
      modifiers = (cell_from cell).modifiers;
      untouched = 0;
    }
unfolding appearance_of
appearance_fields cell =
    unpacked _ (
    record {
      foreground_fits = omega arith;
      background_fits = omega arith;
      modifiers_fit = omega arith;
      untouched_fits = omega arith;
    })

-- symbol and style may be set in either order
pub either_order : (symbol style cell : ℕ) → styled style (with_symbol symbol cell) ≡ with_symbol symbol (styled style cell)
unfolding styled with_symbol
either_order symbol style cell =
    ap (λ (c : Cell). cell_packed (applied (style_from style) c)) (symbol_fields symbol cell)
    ∙ sym (ap (λ (c : Cell). cell_packed (record { symbol = symbol; foreground = c.foreground; background = c.background; modifiers = c.modifiers; untouched = c.untouched })) (styled_fields style cell))
