-- Document 01, 'Inner area and frame (block.rs, padding.rs)': the titles of a block, "by the rules of `render_left_titles`,
-- `render_center_titles`, `render_right_titles`", named here as in the Rust. Sums saturate at 65,535, differences at 0.
-- Document 02, C-11: "every part that asks for a width follows": titles are read once, before any is chosen or placed.
use Rattle.std.specs.Prelude.{ℕ, ◌+◌, ◌-◌, ◌/◌, min, max, Bool, cond, ◌&&◌, List, [], ◌∷◌, ◌++◌, map, reverse, eqb, leb, ltb}
use Rattle.num.specs.Held.{held}
use Rattle.text.specs.declared.Alignment.{Alignment}
use Rattle.text.specs.declared.Alignment.TheVariants.{Left, Center, Right}
use Rattle.text.specs.declared.TitlePosition.{TitlePosition}
use Rattle.text.specs.declared.TitlePosition.TheVariants.{Top, Bottom}
use Rattle.text.specs.declared.AmbiguousWidth.{AmbiguousWidth}
use Rattle.text.specs.Record.{alignment_of}
use Rattle.text.specs.Alignment.{alignment_number, resolved}
use Rattle.text.specs.Line.{Glyph, TextLine, lines_from}
use Rattle.layout.specs.declared.Rect.{Rect}
use Rattle.layout.specs.Rect.{right_of, bottom_of, is_empty}
use Rattle.buffer.specs.Drawing.{Drawing, in_order}
use Rattle.block.specs.declared.Block.{Block}
use Rattle.block.specs.Inner.{title_is_at, at_left, at_right, taken}
use Rattle.title_glyphs.specs.TitleGlyphs.{glyphs_of_title}
use Rattle.title.specs.Title.{title_line_width, title_in}

-- ---- reading

-- a title: its head, and its glyphs as read
pub record Title : Type 0 where
  pub head : ℕ
  pub glyphs : List Glyph

-- the title of a line of records
abbrev pub title_read : AmbiguousWidth → TextLine → Title
title_read ambiguous line = record { head = line.head; glyphs = glyphs_of_title ambiguous line.records }

-- "A head opens a line.": the titles of these records
abbrev pub titles_from : AmbiguousWidth → List ℕ → List Title
titles_from ambiguous records = map (title_read ambiguous) (lines_from 0 records)

-- ---- selection

-- whether two alignments are the same
abbrev pub same_alignment : Alignment → Alignment → Bool
same_alignment one other = eqb (alignment_number one) (alignment_number other)

-- whether the title with this head is chosen: "Titles are chosen by given or default alignment", and by given or default position
unfoldable pub is_chosen : Block → TitlePosition → Alignment → ℕ → Bool
is_chosen b position alignment head =
    title_is_at b position head && same_alignment (resolved (alignment_of head) b.titles_alignment) alignment

-- `filtered_titles`
abbrev pub filtered_titles : Block → TitlePosition → Alignment → List Title → List Title
filtered_titles b position alignment [] = []
filtered_titles b position alignment (t ∷ ts) =
    cond (is_chosen b position alignment t.head) (t ∷ filtered_titles b position alignment ts) (filtered_titles b position alignment ts)

-- `line_width_u16`
abbrev pub title_width : Title → ℕ
title_width t = title_line_width t.glyphs

-- ---- placed titles

-- a title, its area, and the alignment that its line is drawn with
pub record PlacedTitle : Type 0 where
  pub area : Rect
  pub alignment : Alignment
  pub title : Title

-- "but a title line is drawn by its given one, none meaning left"
abbrev pub given_alignment : ℕ → Alignment
given_alignment head = resolved (alignment_of head) Left

abbrev pub placed_as_given : Rect → Title → PlacedTitle
placed_as_given area t = record { area = area; alignment = given_alignment t.head; title = t }

-- drawing of one placed title, and of several in order
abbrev pub title_drawn : List ℕ → Block → PlacedTitle → Drawing
title_drawn styles b p = title_in styles b.titles_style p.area p.alignment p.title.glyphs

abbrev pub titles_drawn : List ℕ → Block → List PlacedTitle → Drawing
titles_drawn styles b placed = in_order (map (title_drawn styles b) placed)

-- ---- the titles area

-- `titles_area`: the first or last row of the block, between the left and right borders
abbrev pub titles_row : TitlePosition → Rect → ℕ
titles_row Top r = r.y
titles_row Bottom r = bottom_of r - 1

abbrev pub titles_area : Block → TitlePosition → Rect → Rect
titles_area b position r =
    record {
      x = held (r.x + taken (at_left b));
      y = titles_row position r;
      width = r.width - taken (at_left b) - taken (at_right b);
      height = 1;
    }

-- an area with another left edge, or another width
abbrev pub with_x : ℕ → Rect → Rect
with_x x r = record { x = x; y = r.y; width = r.width; height = r.height }

abbrev pub with_width : ℕ → Rect → Rect
with_width width r = record { x = r.x; y = r.y; width = width; height = r.height }

-- ---- left titles

-- the left part of an area, for a title of this width
abbrev pub left_part : ℕ → Rect → Rect
left_part width r = with_width (min width r.width) r

-- the area remaining after a title of this width and the column between titles
abbrev pub past_title : ℕ → Rect → Rect
past_title width r =
    record { x = held (r.x + held (width + 1)); y = r.y; width = r.width - held (width + 1); height = r.height }

-- `render_left_titles`, in the remaining titles area; stops when that is empty
abbrev pub left_titles : Rect → List Title → List PlacedTitle
left_titles area [] = []
left_titles area (t ∷ ts) =
    cond (is_empty area) []
    (placed_as_given (left_part (title_width t) area) t
    ∷ left_titles (past_title (title_width t) area) ts)

-- ---- centred titles

-- `sum` plus the widths of titles, with one column after each
abbrev pub spaced_from : ℕ → List Title → ℕ
spaced_from sum [] = sum
spaced_from sum (t ∷ ts) = spaced_from (held (sum + held (title_width t + 1))) ts

-- total width of titles, with one column between them
abbrev pub total_width : List Title → ℕ
total_width ts = spaced_from 0 ts - 1

-- `render_centered_titles_without_truncation`: the area from the start column of centred titles of this total width
abbrev pub centered_from : ℕ → Rect → Rect
centered_from total r = with_x (held (r.x + (r.width - total) / 2)) r

abbrev pub untruncated_titles : Rect → List Title → List PlacedTitle
untruncated_titles area [] = []
untruncated_titles area (t ∷ ts) =
    placed_as_given (with_width (title_width t) area) t
    ∷ untruncated_titles (past_title (title_width t) area) ts

-- `render_centered_titles_with_truncation`: the offset, half the excess width
abbrev pub center_offset : ℕ → Rect → ℕ
center_offset total r = (total - r.width) / 2

-- width of a truncated title: the smaller of its own and the remaining area's, less the offset
abbrev pub truncated_width : ℕ → Rect → Title → ℕ
truncated_width offset area t = min area.width (title_width t) - offset

-- "save where `render_centered_titles_with_truncation` sets it": right while the offset is above 0, which hides the title's first
-- columns, then left
abbrev pub set_alignment : ℕ → Alignment
set_alignment offset = cond (ltb 0 offset) Right Left

abbrev pub placed_truncated : ℕ → Rect → Title → PlacedTitle
placed_truncated offset area t =
    record { area = with_width (truncated_width offset area t) area; alignment = set_alignment offset; title = t }

-- stops when the remaining area is empty; each title takes its width and the column between titles from the offset
abbrev pub truncated_titles : ℕ → Rect → List Title → List PlacedTitle
truncated_titles offset area [] = []
truncated_titles offset area (t ∷ ts) =
    let width = truncated_width offset area t in
    cond (is_empty area) []
    (placed_truncated offset area t
    ∷ truncated_titles (offset - width - 1) (past_title width area) ts)

-- `render_center_titles`
unfoldable pub center_titles : Rect → List Title → List PlacedTitle
center_titles area ts =
    cond (leb (total_width ts) area.width)
    (untruncated_titles (centered_from (total_width ts) area) ts)
    (truncated_titles (center_offset (total_width ts) area) area ts)

-- ---- right titles

-- the right part of an area, for a title of this width
abbrev pub right_part : ℕ → Rect → Rect
right_part width r = with_x (max (right_of r - width) r.x) (with_width (min width r.width) r)

-- the area remaining before that title and the column between titles
abbrev pub before_title : ℕ → Rect → Rect
before_title width r = with_width (r.width - width - 1) r

-- `render_right_titles`, of titles "in reverse order" (the last one first); stops when the remaining area is empty
abbrev pub right_titles : Rect → List Title → List PlacedTitle
right_titles area [] = []
right_titles area (t ∷ ts) =
    cond (is_empty area) []
    (placed_as_given (right_part (title_width t) area) t
    ∷ right_titles (before_title (title_width t) area) ts)

-- ---- all titles

-- "Each position draws left, centre, right titles", in the titles area
unfoldable pub groups_in : Block → TitlePosition → Rect → List Title → List PlacedTitle
groups_in b position area ts =
    left_titles area (filtered_titles b position Left ts)
    ++ center_titles area (filtered_titles b position Center ts)
    ++ right_titles area (reverse (filtered_titles b position Right ts))

abbrev pub titles_at : Block → TitlePosition → Rect → List Title → List PlacedTitle
titles_at b position r ts = groups_in b position (titles_area b position r) ts

-- "top titles, bottom titles", over a non-empty rectangle
unfoldable pub titles_on : List ℕ → Block → Rect → List Title → Drawing
titles_on styles b r ts = titles_drawn styles b (titles_at b Top r ts ++ titles_at b Bottom r ts)
