-- Not in the papers: an ink, which is a symbol, a style or both, as applied to a cell.
use Rattle.std.specs.Prelude.{ℕ, ◌<◌, ◌^◌}
use Rattle.cell.specs.Cell.{with_symbol, styled}
use Rattle.buffer.specs.declared.Ink.{Ink}
use Rattle.buffer.specs.declared.Ink.TheVariants.{Style, Symbol, Both}

-- a cell with an ink applied: the symbol first, then the style
unfoldable pub inked : Ink → ℕ → ℕ
inked (Style style) cell = styled style cell
inked (Symbol symbol) cell = with_symbol symbol cell
inked (Both symbol style) cell = styled style (with_symbol symbol cell)

-- the ink's symbol, if any, has at most 21 bits
abbrev pub SymbolFits : Ink → Type 0
SymbolFits (Style style) = Unit {0}
SymbolFits (Symbol symbol) = symbol < 2 ^ 21
SymbolFits (Both symbol style) = symbol < 2 ^ 21
