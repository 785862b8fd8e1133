-- Not in the papers: the placement of titles one after another, as the functions compute it; `Titles` has the rules.
use Rattle.std.specs.Prelude.{ℕ, ◌+◌, ◌-◌, ◌≤◌, min, ◌≡◌, true, false, cond, List, [], ◌∷◌, ◌++◌, leb, length, get_or, take, drop}
use Rattle.text.specs.declared.Alignment.{Alignment}
use Rattle.text.specs.declared.AmbiguousWidth.{AmbiguousWidth}
use Rattle.text.specs.Line.{TextLine, lines_from}
use Rattle.layout.specs.declared.Rect.{Rect}
use Rattle.layout.specs.Rect.{is_empty}
use Rattle.buffer.specs.declared.Screen.{Screen}
use Rattle.buffer.specs.Drawing.{drawn}
use Rattle.block.specs.declared.Block.{Block}
use Rattle.title.specs.FittingExtra.{TitleArea}
use Rattle.titles.specs.declared.Place.{Place}
use Rattle.titles.specs.declared.Group.{Group}
use Rattle.titles.specs.Titles.{Title, title_read, is_chosen, filtered_titles, title_width, PlacedTitle, given_alignment, set_alignment, titles_drawn, with_width, past_title, centered_from, center_offset, spaced_from, right_titles}

-- width that the next title gets, given the width it needs
abbrev pub placed_width : Place → ℕ → ℕ
placed_width p width = min p.area.width width - p.offset

-- alignment that the next title's line is drawn with, given its head
abbrev pub placed_alignment : Place → ℕ → Alignment
placed_alignment p head = cond p.truncates (set_alignment p.offset) (given_alignment head)

-- the place after a title of this width
abbrev pub next_place : Place → ℕ → Place
next_place p width =
    record { area = past_title width p.area; offset = p.offset - width - 1; truncates = p.truncates }

-- a title at a place
abbrev pub placed_at : Place → Title → PlacedTitle
placed_at p t =
    record {
      area = with_width (placed_width p (title_width t)) p.area;
      alignment = placed_alignment p t.head;
      title = t;
    }

-- titles placed one after another: left titles, and centred titles with or without truncation
abbrev pub placed_titles : Place → List Title → List PlacedTitle
placed_titles p [] = []
placed_titles p (t ∷ ts) =
    cond (is_empty p.area) [] (placed_at p t ∷ placed_titles (next_place p (placed_width p (title_width t))) ts)

-- place of the first centred title, given the total width: that width in the middle of the area if it fits, else the whole area
-- with an offset of half the excess
unfoldable pub center_place : Rect → ℕ → Place
center_place area total =
    cond (leb total area.width)
    (record { area = with_width total (centered_from total area); offset = 0; truncates = false })
    (record { area = area; offset = center_offset total area; truncates = true })

-- the remaining titles area is empty or lies on the screen
abbrev pub AreaFits : Screen → ℕ → Rect → Type 0
AreaFits s cells area = is_empty area ≡ false → TitleArea s cells area

-- the titles of a group
abbrev pub titles_of : Block → Group → List Title → List Title
titles_of b g ts = filtered_titles b g.position g.alignment ts

-- the line with this head and these records, of which the first has this number
abbrev pub line_of : ℕ → ℕ → List ℕ → TextLine
line_of number head records = record { head = head; first = number; records = records }

-- the title with this head and these records
abbrev pub title_of : AmbiguousWidth → ℕ → List ℕ → Title
title_of ambiguous head records = title_read ambiguous (line_of 0 head records)

-- `next` is `sum` plus the spaced width of one more title, if it belongs to the group
abbrev pub Added : Block → Group → Title → ℕ → ℕ → Type 0
Added b g t sum next = (ts : List Title) → spaced_from next (titles_of b g ts) ≡ spaced_from sum (titles_of b g (t ∷ ts))

-- one more title is placed, if it belongs to the group: drawing the others from `next` completes the drawing of all from `p`
pub record Moved (s : Screen) (styles : List ℕ) (b : Block) (g : Group) (t : Title) (p : Place) (cells : List ℕ) (next : Place) (after : List ℕ) : Type 0 where
  pub fits : AreaFits s (length after) next.area
  pub same_length : length after ≡ length cells
  pub draws : (ts : List Title)
      → drawn s.columns (titles_drawn styles b (placed_titles next (titles_of b g ts))) after
      ≡ drawn s.columns (titles_drawn styles b (placed_titles p (titles_of b g (t ∷ ts)))) cells

-- the same for right titles, the last one first
pub record MovedBack (s : Screen) (styles : List ℕ) (b : Block) (g : Group) (t : Title) (area : Rect) (cells : List ℕ) (next : Rect) (after : List ℕ) : Type 0 where
  pub fits : AreaFits s (length after) next
  pub same_length : length after ≡ length cells
  pub draws : (ts : List Title)
      → drawn s.columns (titles_drawn styles b (right_titles next ts)) after
      ≡ drawn s.columns (titles_drawn styles b (right_titles area (cond (is_chosen b g.position g.alignment t.head) (t ∷ ts) ts))) cells

-- `at` is the record number of the last head before record `end`
pub record LastHead (titles : List ℕ) (end at : ℕ) : Type 0 where
  pub before : at + 1 ≤ end
  pub is_last : lines_from 0 (take end titles)
      ≡ lines_from 0 (take at titles) ++ (line_of (at + 1) (get_or titles at 0) (take (end - (at + 1)) (drop (at + 1) titles)) ∷ [])
