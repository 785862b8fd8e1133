-- Document 01, 'Small notices by hand': "centred titles abcd, efg in 5: "bcd_e". Centred a, bcdefg in 4: "_fg_"."
use Prim.Native.Nat.{ℕ}
use mathlib.Core.Path.{◌≡◌, refl}
use mathlib.Core.Bool.{false}
use mathlib.Core.List.{List, [], ◌∷◌, map}
use lib.ListN.{replicate}
use Rattle.text.specs.declared.Alignment.TheVariants.{Left}
use Rattle.text.specs.declared.TitlePosition.TheVariants.{Top}
use Rattle.text.specs.declared.AmbiguousWidth.{AmbiguousWidth}
use Rattle.text.specs.Record.{read_width, glyph_record, head_record}
use Rattle.cell.specs.Cell.{cell_from, blank_cell, with_symbol, styled}
use Rattle.buffer.specs.Drawing.{drawn, over, inside}
use Rattle.block.specs.declared.Block.{Block}
use Rattle.block.specs.declared.Shadow.TheVariants.{Absent}
use Rattle.title_glyphs.specs.TitleGlyphs.{is_drawn, title_glyph_on}
use Rattle.title.specs.Title.{title_line_width, title_line, title_in}
use Rattle.titles.specs.Titles.{titles_from, is_chosen, center_titles, groups_in, titles_on}

-- a letter of one cell in style 0, and the head of a centred title at the top
abbrev pub letter : ℕ → ℕ
letter symbol = glyph_record symbol 1 false 0

abbrev pub centred : ℕ
centred = head_record 1 0

-- a block without borders whose titles have style 0
abbrev pub bare : Block
bare =
    record {
      borders = record { top = false; right = false; bottom = false; left = false };
      border_set =
          record {
            top_left = 32;
            top_right = 32;
            bottom_left = 32;
            bottom_right = 32;
            vertical_left = 32;
            vertical_right = 32;
            horizontal_top = 32;
            horizontal_bottom = 32;
          };
      border_style = 0;
      style = 0;
      padding = record { left = 0; right = 0; top = 0; bottom = 0 };
      titles_style = 0;
      titles_alignment = Left;
      titles_position = Top;
      shadow = Absent;
    }

-- the symbols of a row of blank cells, given its width, after the titles are drawn on it
abbrev pub shown : AmbiguousWidth → ℕ → List ℕ → List ℕ
shown ambiguous width records =
    map (λ (cell : ℕ). (cell_from cell).symbol)
    (drawn width (titles_on (0 ∷ []) bare (record { x = 0; y = 0; width = width; height = 1 }) (titles_from ambiguous records)) (replicate width blank_cell))

-- a is 97, and the blank symbol is 32
pub centred-titles : (a : AmbiguousWidth) →
    (shown a 5 (centred ∷ letter 97 ∷ letter 98 ∷ letter 99 ∷ letter 100 ∷ centred ∷ letter 101 ∷ letter 102 ∷ letter 103 ∷ [])
    ≡ 98 ∷ 99 ∷ 100 ∷ 32 ∷ 101 ∷ [])
    × (shown a 4 (centred ∷ letter 97 ∷ centred ∷ letter 98 ∷ letter 99 ∷ letter 100 ∷ letter 101 ∷ letter 102 ∷ letter 103 ∷ [])
    ≡ 32 ∷ 102 ∷ 103 ∷ 32 ∷ [])
unfolding read_width title_line_width is_drawn title_glyph_on title_line title_in is_chosen center_titles groups_in titles_on drawn over inside styled with_symbol
centred-titles a = (refl, refl)
