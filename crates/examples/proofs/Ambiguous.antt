-- Document 02, C-11, by computation: A has width code 7, and is read as one cell or as two.
use Prim.Native.Nat.{ℕ}
use mathlib.Core.Path.{◌≡◌, refl}
use mathlib.Core.Bool.{Bool, true, false}
use mathlib.Core.List.{List, [], ◌∷◌, map}
use Rattle.text.specs.declared.Alignment.TheVariants.{Left}
use Rattle.text.specs.declared.AmbiguousWidth.TheVariants.{Narrow, Wide}
use Rattle.text.specs.Record.{read_width, glyph_record, head_record}
use Rattle.text.specs.Line.{starts_from}
use Rattle.cell.specs.Cell.{with_symbol, styled}
use Rattle.buffer.specs.Drawing.{drawn, over, inside}
use Rattle.wrapping.specs.Rule.{rule_of}
use Rattle.wrapping.specs.Wrapping.{is_over_wide, must_join, takes_spaces, gathered, joined, unjoined, full, emptied, drops, appended, ◌then◌, join_step, emit_step, append_step, step, last_lines, wrap}
use Rattle.place.specs.Place.{place_of}
use Rattle.line_composer.specs.declared.Method.TheVariants.{WordWrap}
use Rattle.line_composer.specs.Lines.{lines_of, line_lines, lines, skipped, wrapped_line_of}
use Rattle.line_composer.specs.Places.{is_placed}
use Rattle.title_glyphs.specs.TitleGlyphs.{is_drawn, title_glyph_on}
use Rattle.title.specs.Title.{title_line_width, title_line, title_in}
use Rattle.titles.specs.Titles.{is_chosen, center_titles, groups_in, titles_on}
use Rattle.examples.specs.Notation.{text_of, glyphs, wrapped}
use Rattle.examples.proofs.Titles.{letter, shown}

-- limit 1 "A": placed if narrow; over-wide if wide, and the line is empty
pub at_one : (trim : Bool) →
    (wrapped Narrow 1 trim "A" ≡ glyphs Narrow 1 "A" ∷ [])
    × (map (is_placed 1) (starts_from 0 (glyphs Narrow 1 "A")) ≡ true ∷ [])
    × (skipped (rule_of Narrow 1 trim) (text_of "A") ≡ [])
    × (wrapped Wide 1 trim "A" ≡ [] ∷ [])
    × (skipped (rule_of Wide 1 trim) (text_of "A") ≡ glyphs Wide 1 "A")
unfolding read_width is_over_wide must_join takes_spaces gathered joined unjoined full emptied drops appended ◌then◌ join_step emit_step append_step step last_lines wrap lines_of line_lines lines skipped place_of is_placed
at_one true = (refl, refl, refl, refl, refl)
at_one false = (refl, refl, refl, refl, refl)

-- limit 1 "ZAZ", wide: one line from record 1 to record 4 of width 0, as the entry doesn't carry the setting
pub between_marks : (trim : Bool) → map wrapped_line_of (lines (rule_of Wide 1 trim) WordWrap Left (text_of "ZAZ"))
    ≡ record { first = 1; end = 4; width = 0; alignment = Left } ∷ []
unfolding read_width is_over_wide must_join takes_spaces gathered joined unjoined full emptied drops appended ◌then◌ join_step emit_step append_step step last_lines wrap lines_of line_lines lines wrapped_line_of
between_marks true = refl
between_marks false = refl

-- left titles A and b in 10 columns: b is in column 2 if narrow, in column 3 if wide; A is 65, b is 98
abbrev pub titles : List ℕ
titles = head_record 0 0 ∷ glyph_record 65 7 false 0 ∷ head_record 0 0 ∷ letter 98 ∷ []

pub left-titles :
    (shown Narrow 10 titles ≡ 65 ∷ 32 ∷ 98 ∷ 32 ∷ 32 ∷ 32 ∷ 32 ∷ 32 ∷ 32 ∷ 32 ∷ [])
    × (shown Wide 10 titles ≡ 65 ∷ 32 ∷ 32 ∷ 98 ∷ 32 ∷ 32 ∷ 32 ∷ 32 ∷ 32 ∷ 32 ∷ [])
unfolding read_width title_line_width is_drawn title_glyph_on title_line title_in is_chosen center_titles groups_in titles_on drawn over inside styled with_symbol
left-titles = (refl, refl)
