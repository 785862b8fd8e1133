-- Not in the papers: a notice with widths as symbols: drawn like the notice, each cell then holds its symbol's width, or the blank
-- symbol, 32, where a halved glyph is drawn.
use Rattle.std.specs.Prelude.{ℕ, ◌%◌, ◌^◌, cond, List, [], ◌∷◌}
use Rattle.text.specs.declared.AmbiguousWidth.{AmbiguousWidth}
use Rattle.text.specs.Record.{is_head, width_of, whitespace_of, style_of, glyph_record}
use Rattle.cell.specs.Cell.{cell_from, with_untouched}
use Rattle.flat.specs.declared.FlatBlock.{FlatBlock}

-- a glyph with its width, as read, as symbol and as width; a head is unchanged
unfoldable pub widened : AmbiguousWidth → ℕ → ℕ
widened ambiguous r =
    cond (is_head r) r (glyph_record (width_of ambiguous r) (width_of ambiguous r) (whitespace_of r) (style_of r))

-- the block with all its symbols replaced by 1, the width of each
abbrev pub widened_block : FlatBlock → FlatBlock
widened_block b =
    record {
      top_left = 1;
      top_right = 1;
      bottom_left = 1;
      bottom_right = 1;
      vertical_left = 1;
      vertical_right = 1;
      horizontal_top = 1;
      horizontal_bottom = 1;
      shadow_symbol = 1;
      shadow_x = b.shadow_x;
      shadow_y = b.shadow_y;
      padding_left = b.padding_left;
      padding_right = b.padding_right;
      padding_top = b.padding_top;
      padding_bottom = b.padding_bottom;
      border_top = b.border_top;
      border_right = b.border_right;
      border_bottom = b.border_bottom;
      border_left = b.border_left;
      border_style = b.border_style;
      style = b.style;
      titles_style = b.titles_style;
      titles_alignment = b.titles_alignment;
      titles_position = b.titles_position;
      shadow = b.shadow;
      shadow_style = b.shadow_style;
    }

-- a cell with the symbol of `wide`, a width, in the bits that drawing never touches
unfoldable pub with_width : ℕ → ℕ → ℕ
with_width cell wide = with_untouched ((cell_from wide).symbol % 2 ^ 3) cell

-- each entry changed by the other list's entry at its index, if there is one
abbrev pub changed_by : (ℕ → ℕ → ℕ) → List ℕ → List ℕ → List ℕ
changed_by f [] others = []
changed_by f (x ∷ xs) [] = x ∷ xs
changed_by f (x ∷ xs) (y ∷ ys) = f x y ∷ changed_by f xs ys
