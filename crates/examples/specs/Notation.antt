-- Document 01, 'Small notices by hand': "`_` space, W width 2, Z zero-width solid, z zero-width space, other letters one cell";
-- for document 02's C-11 A ambiguous, for its C-14 T width 3, S a space of width 2.
use Rattle.std.specs.Prelude.{ℕ, Bool, cond, ◌||◌, List, [], ◌∷◌, map, eqb}
use Prim.Native.Char.{Char, code}
use Prim.Native.String.{String, [], ◌∷◌}
use Rattle.text.specs.declared.Alignment.TheVariants.{Left}
use Rattle.text.specs.declared.AmbiguousWidth.{AmbiguousWidth}
use Rattle.text.specs.Record.{glyph_record, head_record}
use Rattle.text.specs.Line.{Glyph, numbered, starts_from}
use Rattle.cell.specs.Cell.{blank_symbol}
use Rattle.line_composer.specs.declared.Method.TheVariants.{WordWrap}
use Rattle.line_composer.specs.Lines.{Line, lines, wrapped_line_of}
use Rattle.line_composer.specs.Places.{is_placed, is_clipped}
use Rattle.wrapping.specs.Rule.{rule_of}

abbrev pub is : Char → Char → Bool
is a b = eqb (code a) (code b)

-- the packed record of a letter, in style 0
abbrev pub packed_glyph : Char → ℕ
packed_glyph c =
    glyph_record
    (cond (is c "_" || is c "z" || is c "S") blank_symbol (code c))
    (cond (is c "A") 7 (cond (is c "T") 3 (cond (is c "W" || is c "S") 2 (cond (is c "Z" || is c "z") 0 1))))
    (is c "_" || is c "z" || is c "S")
    0

abbrev pub packed_glyphs : String → List ℕ
packed_glyphs [] = []
packed_glyphs (c ∷ letters) = packed_glyph c ∷ packed_glyphs letters

-- a text of one line of alignment 0: the head is record 0, the first letter record 1
abbrev pub text_of : String → List ℕ
text_of letters = head_record 0 0 ∷ packed_glyphs letters

-- letters as glyphs of a text, the first with the record number given
abbrev pub glyphs : AmbiguousWidth → ℕ → String → List Glyph
glyphs ambiguous number letters = numbered ambiguous number (packed_glyphs letters)

-- the glyphs of each composed line
abbrev pub wrapped : AmbiguousWidth → ℕ → Bool → String → List (List Glyph)
wrapped ambiguous limit trim letters = map (λ (line : Line). line.glyphs) (lines (rule_of ambiguous limit trim) WordWrap Left (text_of letters))

-- the widths of the composed lines
abbrev pub widths : AmbiguousWidth → ℕ → Bool → String → List ℕ
widths ambiguous limit trim letters = map (λ (line : Line). (wrapped_line_of line).width) (lines (rule_of ambiguous limit trim) WordWrap Left (text_of letters))

-- which glyphs of a line are placed, and clipped
abbrev pub placed_of : ℕ → List Glyph → List Bool
placed_of limit line = map (is_placed limit) (starts_from 0 line)

abbrev pub clipped_of : ℕ → List Glyph → List Bool
clipped_of limit line = map (is_clipped limit) (starts_from 0 line)
