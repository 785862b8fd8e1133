-- A worked notice of demand 3: it meets the premises of the theorem `pages`, so these can be met, and the theorem gives the pages
-- that one writes down by hand.
use Prim.Native.Nat.{ℕ}
use Prim.Native.Char.{Char, code}
use mathlib.Core.Path.{◌≡◌, refl, ◌∙◌}
use mathlib.Core.Bool.{true}
use mathlib.Core.List.{[], ◌∷◌}
use lib.ListN.{replicate}
use Rattle.text.specs.declared.Alignment.TheVariants.{Left, Right}
use Rattle.text.specs.declared.TitlePosition.TheVariants.{Top}
use Rattle.text.specs.declared.AmbiguousWidth.TheVariants.{Narrow}
use Rattle.text.specs.Record.{read_width, head_record}
use Rattle.text.specs.Line.{glyphs_from}
use Rattle.refuse.specs.Causes.{screen_wrong, styles_wrong, text_heads_wrong, titles_wrong, screen_causes, text_causes}
use Rattle.padding.specs.Padding.{padding_of}
use Rattle.block.specs.declared.Block.{Block}
use Rattle.block.specs.declared.Shadow.TheVariants.{Absent}
use Rattle.block.specs.Causes.{block_styles, border_symbols, block_symbols}
use Rattle.block.specs.Inner.{has_title_at, inner_of}
use Rattle.block.proofs.Examples.{rect, four_borders}
use Rattle.wrapping.specs.Wrapping.{is_over_wide, must_join, takes_spaces, gathered, joined, unjoined, full, emptied, drops, appended, ◌then◌, join_step, emit_step, append_step, step, last_lines, wrap}
use Rattle.place.specs.Place.{place_of}
use Rattle.line_composer.specs.Lines.{lines_of, line_lines, lines}
use Rattle.line_composer.specs.Places.{is_placed}
use Rattle.check_block.specs.Styles.{frame_styles}
use Rattle.render_line.specs.RenderLine.{line_offset, drawn_starts}
use Rattle.line_composer.specs.declared.Wrap.TheVariants.{On}
use Rattle.paragraph.specs.Notice.{notice_lines, inner_area_of}
use Rattle.draw_text.specs.Call.{text_styles}
use Rattle.draw_notice.specs.Call.{Call, notice_styles, causes_of, verdict_of}
use Rattle.draw_notice.proofs.Pair.{accepted-apart}
use Rattle.pages.specs.Pages.{inner_area, composed_lines, placement_of, placements}
use Rattle.pages.specs.Reading.{Seen, OneCell, WrappedNotice, pages_read}
use Rattle.pages.proofs.Pages.{pages}
use Rattle.examples.specs.Notation.{packed_glyphs}

-- a block with four borders of the symbol x and nothing else
abbrev pub framed : Block
framed =
    let x = code "x" in
    record {
      borders = four_borders;
      border_set =
          record {
            top_left = x;
            top_right = x;
            bottom_left = x;
            bottom_right = x;
            vertical_left = x;
            vertical_right = x;
            horizontal_top = x;
            horizontal_bottom = x;
          };
      border_style = 0;
      style = 0;
      padding = padding_of 0 0 0 0;
      titles_style = 0;
      titles_alignment = Left;
      titles_position = Top;
      shadow = Absent;
    }

-- "ab_c_de" in a frame of 4 columns and 4 rows, trimmed, right-aligned by the default alignment. Its pages:
--
--     xxxx  xxxx
--     xabx  xdex
--     x cx  x  x
--     xxxx  xxxx
abbrev pub worked : Call
worked =
    record {
      columns = 4;
      rows = 4;
      cells = replicate 16 0;
      styles = 0 ∷ [];
      text = head_record 3 0 ∷ packed_glyphs "ab_c_de";
      titles = [];
      area = rect 0 0 4 4;
      notice = record { block = framed; style = 0; text_style = 0; alignment = Right; wrap = On true; scroll = 0; ambiguous = Narrow };
    }

pub accepted : WrappedNotice worked
unfolding screen_wrong styles_wrong text_heads_wrong titles_wrong block_styles border_symbols block_symbols has_title_at inner_of inner_area_of frame_styles text_styles notice_styles screen_causes text_causes causes_of verdict_of inner_area
accepted = record { accepted = accepted-apart worked refl; trim = true; wrapped = refl; some_cell = refl }

pub one_cell : OneCell (glyphs_from Narrow 0 worked.text)
unfolding read_width
one_cell = ((refl, refl), ((refl, refl), ((refl, refl), ((refl, refl), ((refl, refl), ((refl, refl), ((refl, refl), tt)))))))

abbrev pub on : ℕ → ℕ → ℕ → Char → Seen
on page row column symbol = record { page = page; row = row; column = column; symbol = code symbol }

-- each letter's page, row and column
pub worked-pages : pages_read worked ≡ on 0 1 1 "a" ∷ on 0 1 2 "b" ∷ on 0 2 2 "c" ∷ on 1 1 1 "d" ∷ on 1 1 2 "e" ∷ []
unfolding read_width is_over_wide must_join takes_spaces gathered joined unjoined full emptied drops appended ◌then◌ join_step emit_step append_step step last_lines wrap lines_of line_lines lines place_of is_placed line_offset drawn_starts has_title_at inner_of notice_lines inner_area_of inner_area composed_lines placement_of placements
worked-pages = (pages worked accepted one_cell).places ∙ refl
