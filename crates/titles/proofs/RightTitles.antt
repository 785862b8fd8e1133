-- Right titles: the area remaining before each, and their order, the last one first.
use Prim.Native.Nat.{ℕ, zero, suc, ◌+◌, ◌-◌, ◌<◌, ◌≤◌, ◌^◌, min, max}
use mathlib.Core.Path.{◌≡◌, refl, sym, ap, ◌∙◌}
use mathlib.Core.Bool.{Bool, true, false, cond}
use mathlib.Core.List.{List, [], ◌∷◌, ◌++◌, map, reverse, reverse-append, map-append}
use native.Mathlib.Omega.{arith}
use lib.ListN.{length, get_or, take, drop}
use lib.Seq.{take-length}
use Rattle.text.specs.declared.Alignment.{Alignment}
use Rattle.text.specs.declared.TitlePosition.{TitlePosition}
use Rattle.text.specs.Record.{is_head}
use Rattle.text.specs.declared.AmbiguousWidth.{AmbiguousWidth}
use Rattle.text.specs.Line.{Glyph, until_head, lines_from}
use Rattle.layout.specs.declared.Rect.{Rect}
use Rattle.layout.specs.Rect.{right_of, is_empty}
use Rattle.buffer.specs.declared.Screen.{Screen}
use Rattle.buffer.specs.Drawing.{drawn}
use Rattle.buffer.proofs.Drawn.{drawn-length, drawn_then, drawn-none}
use Rattle.block.specs.declared.Block.{Block}
use Rattle.title.specs.Title.{title_line_width, title_in}
use Rattle.title.specs.FittingExtra.{TitleArea}
use Rattle.titles.specs.declared.Group.{Group}
use Rattle.titles.specs.Titles.{Title, title_read, titles_from, is_chosen, filtered_titles, PlacedTitle, given_alignment, titles_drawn, with_x, with_width, right_part, before_title, right_titles}
use Rattle.titles.specs.PlacingExtra.{AreaFits, titles_of, line_of, title_of, MovedBack, LastHead}
use Rattle.titles.proofs.Areas.{TestedArea}

-- ---- a title's part of the area, and the remaining area

pub right-part_fields : (area : Rect) (width right start x columns : ℕ) → right ≡ right_of area → start ≡ right - width → x ≡ max start area.x → columns ≡ min width area.width
    → record { x = x; y = area.y; width = columns; height = area.height } ≡ right_part width area
right-part_fields area width right start x columns p q r s = rw (r, q, p, s)

pub before-title_fields : (area : Rect) (width without left : ℕ) → without ≡ area.width - width → left ≡ without - 1
    → record { x = area.x; y = area.y; width = left; height = area.height } ≡ before_title width area
before-title_fields area width without left p q = rw (q, p)

-- the part ends within the screen, as no sum saturates
part-ends : (x width w columns : ℕ) → min (x + width) 65535 ≤ columns → columns < 2 ^ 15
    → min (max (min (x + width) 65535 - w) x + min w width) 65535 ≤ columns
part-ends x width w columns h few = omega arith

left-ends : (x width w columns : ℕ) → min (x + width) 65535 ≤ columns → min (x + (width - w - 1)) 65535 ≤ columns
left-ends x width w columns h = omega arith

module _ (s : Screen) (n : ℕ) (area : Rect) (t : TitleArea s n area) where
  -- columns of the same row that end on the screen lie on it
  row_fits : (x width : ℕ) → min (x + width) 65535 ≤ s.columns → TitleArea s n (with_x x (with_width width area))
  row_fits x width h =
      record {
        on_screen = record { columns = t.on_screen.columns; size = t.on_screen.size; right = h; bottom = t.on_screen.bottom };
        one_row = t.one_row;
        in_rows = t.in_rows;
        few_columns = t.few_columns;
      }

  pub part-fits : (width : ℕ) (part : Rect) → part ≡ right_part width area → TitleArea s n part
  part-fits width part e = rw e (row_fits _ _ (part-ends area.x area.width width s.columns t.on_screen.right t.few_columns))

  left-fits : (width : ℕ) → TitleArea s n (before_title width area)
  left-fits width = row_fits _ _ (left-ends area.x area.width width s.columns t.on_screen.right)

-- a non-empty area lies on the screen
pub fits_with_room : (s : Screen) (n : ℕ) (area : Rect) (empty : Bool) → AreaFits s n area → empty ≡ is_empty area → empty ≡ false → TitleArea s n area
fits_with_room s n area empty f e h = f (sym e ∙ h)

-- ---- one title drawn at the right end

module _ (area : Rect) (glyphs : List Glyph) (width : ℕ) (e : width ≡ title_line_width glyphs) where
  pub before-left : (r : Rect) → r ≡ before_title width area → r ≡ before_title (title_line_width glyphs) area
  before-left r p = p ∙ ap (λ (w : ℕ). before_title w area) e

  pub before-drawn : (columns : ℕ) (styles : List ℕ) (style head : ℕ) (part : Rect) (alignment : Alignment) (cells next : List ℕ)
      → part ≡ right_part width area → alignment ≡ given_alignment head → next ≡ drawn columns (title_in styles style part alignment glyphs) cells
      → next ≡ drawn columns (title_in styles style (right_part (title_line_width glyphs) area) (given_alignment head) glyphs) cells
  before-drawn columns styles style head part alignment cells next p a d =
      d ∙ ap (λ (r : Rect). drawn columns (title_in styles style r alignment glyphs) cells) (p ∙ ap (λ (w : ℕ). right_part w area) e)
      ∙ ap (λ (x : Alignment). drawn columns (title_in styles style (right_part (title_line_width glyphs) area) x glyphs) cells) a

pub ruleset at-right-end = (right-part_fields, before-title_fields, part-fits, before-left, before-drawn)

-- ---- one more title

-- an empty area gets no title
nothing_right : (area : Rect) (ts : List Title) → is_empty area ≡ true → right_titles area ts ≡ []
nothing_right area [] e = refl
nothing_right area (t ∷ ts) e = rw e

module _ (s : Screen) (styles : List ℕ) (b : Block) (g : Group) (t : Title) (area : Rect) (cells : List ℕ) where
  -- in an empty area neither this title nor any other is drawn
  pub back_empty : (empty : Bool) → TestedArea s (length cells) area empty → empty ≡ true → MovedBack s styles b g t area cells area cells
  back_empty empty a h =
      let none : is_empty area ≡ true = sym a.tested ∙ h in
      record {
        fits = a.fits;
        same_length = refl;
        draws = λ ts.
            ap (λ (placed : List PlacedTitle). drawn s.columns (titles_drawn styles b placed) cells)
            (nothing_right area ts none ∙ sym (nothing_right area (cond (is_chosen b g.position g.alignment t.head) (t ∷ ts) ts) none));
      }

  module _ (has : Bool) (chosen : has ≡ is_chosen b g.position g.alignment t.head) where
    -- a title of another group isn't drawn
    pub back_other : AreaFits s (length cells) area → has ≡ false → MovedBack s styles b g t area cells area cells
    back_other fits h = record { fits = fits; same_length = refl; draws = λ ts. rw (← chosen, h) }

    -- a title of the group is drawn if the area is non-empty
    pub back_drawn : (left : Rect) (next : List ℕ) (empty : Bool) → TestedArea s (length cells) area empty → empty ≡ false → has ≡ true
        → left ≡ before_title (title_line_width t.glyphs) area
        → next ≡ drawn s.columns (title_in styles b.titles_style (right_part (title_line_width t.glyphs) area) (given_alignment t.head) t.glyphs) cells
        → MovedBack s styles b g t area cells left next
    back_drawn left next empty a room h p d =
        let some-room : is_empty area ≡ false = sym a.tested ∙ room in
        let is-chosen : is_chosen b g.position g.alignment t.head ≡ true = sym chosen ∙ h in
        let size : length next ≡ length cells = ap length d ∙ drawn-length s.columns _ cells in
        record {
          fits = λ _. rw (p, size) (left-fits s (length cells) area (a.fits some-room) (title_line_width t.glyphs));
          same_length = size;
          draws = λ ts.
              rw (p, d, is-chosen) (drawn_then s.columns _ _ cells ∙ rw some-room);
        }

pub ruleset moved_back = (fits_with_room, back_empty, back_other, back_drawn)

-- ---- the last one first

filtered_append : (b : Block) (position : TitlePosition) (alignment : Alignment) (ts us : List Title)
    → filtered_titles b position alignment (ts ++ us) ≡ filtered_titles b position alignment ts ++ filtered_titles b position alignment us
filtered_append b position alignment [] us = refl
filtered_append b position alignment (t ∷ ts) us = go (is_chosen b position alignment t.head) (filtered_append b position alignment ts us)
  where
    go : (c : Bool) → filtered_titles b position alignment (ts ++ us) ≡ filtered_titles b position alignment ts ++ filtered_titles b position alignment us
        → cond c (t ∷ filtered_titles b position alignment (ts ++ us)) (filtered_titles b position alignment (ts ++ us))
        ≡ cond c (t ∷ filtered_titles b position alignment ts) (filtered_titles b position alignment ts) ++ filtered_titles b position alignment us
    go true ih = rw ih
    go false ih = ih

-- the last title, if it belongs to the group, comes first
last-first : (b : Block) (g : Group) (ts : List Title) (t : Title)
    → reverse (titles_of b g (ts ++ (t ∷ []))) ≡ cond (is_chosen b g.position g.alignment t.head) (t ∷ reverse (titles_of b g ts)) (reverse (titles_of b g ts))
last-first b g ts t =
    ap reverse (filtered_append b g.position g.alignment ts (t ∷ []))
    ∙ reverse-append (titles_of b g ts) (titles_of b g (t ∷ []))
    ∙ go (is_chosen b g.position g.alignment t.head)
  where
    go : (c : Bool) → reverse (cond c (t ∷ []) []) ++ reverse (titles_of b g ts) ≡ cond c (t ∷ reverse (titles_of b g ts)) (reverse (titles_of b g ts))
    go true = refl
    go false = refl

-- the title whose head is record `at`, of the records before `end`
abbrev pub title_at : AmbiguousWidth → List ℕ → ℕ → ℕ → Title
title_at a titles end at = title_of a (get_or titles at 0) (take (end - (at + 1)) (drop (at + 1) titles))

-- the titles of a group before record `end`, the last one first
abbrev pub last_to_first : AmbiguousWidth → Block → Group → List ℕ → ℕ → List Title
last_to_first a b g titles end = reverse (titles_of b g (titles_from a (take end titles)))

-- The records before the first head belong to no title,
no_title-before : (number : ℕ) (titles : List ℕ) (end : ℕ) → end ≤ length (until_head titles) → lines_from number (take end titles) ≡ []
no_title-before number titles zero h = refl
no_title-before number [] (suc end) h = refl
no_title-before number (r ∷ rs) (suc end) h = go (is_head r) (no_title-before (suc number) rs end) h
  where
    go : (b : Bool) → (end ≤ length (until_head rs) → lines_from (suc number) (take end rs) ≡ [])
        → suc end ≤ length (cond b [] (r ∷ until_head rs))
        → cond b (line_of (suc number) r (until_head (take end rs)) ∷ lines_from (suc number) (take end rs)) (lines_from (suc number) (take end rs)) ≡ []
    go true ih k = absurd (omega arith)
    go false ih k = ih (omega arith)

-- and those past it hold a title.
some-title-before : (number : ℕ) (titles : List ℕ) (end : ℕ) → length (until_head titles) < end → end ≤ length titles → 0 < length (lines_from number (take end titles))
some-title-before number titles zero h k = absurd (omega arith)
some-title-before number [] (suc end) h k = absurd (omega arith)
some-title-before number (r ∷ rs) (suc end) h k = go (is_head r) (some-title-before (suc number) rs end) h
  where
    go : (b : Bool) → (length (until_head rs) < end → end ≤ length rs → 0 < length (lines_from (suc number) (take end rs)))
        → length (cond b [] (r ∷ until_head rs)) < suc end
        → 0 < length (cond b (line_of (suc number) r (until_head (take end rs)) ∷ lines_from (suc number) (take end rs)) (lines_from (suc number) (take end rs)))
    go true ih m = omega arith
    go false ih m = ih (omega arith) (omega arith)

pub some-title : (titles : List ℕ) (first end : ℕ) → first ≡ length (until_head titles) → first < end → end ≤ length titles → 0 < length (lines_from 0 (take end titles))
some-title titles first end is-first h k = some-title-before 0 titles end (omega (arith, is-first)) k

-- Before each turn: drawing the titles before record `end` in the area `left` completes the drawing of all titles that started in
-- the area `start` on the old cells.
pub record WalkingBack (a : AmbiguousWidth) (s : Screen) (styles : List ℕ) (b : Block) (g : Group) (titles : List ℕ) (start : Rect) (old : List ℕ) (cells : List ℕ) (left : Rect) (end : ℕ) : Type 0 where
  pub some : 0 < s.columns
  pub within : end ≤ length titles
  pub fits : AreaFits s (length cells) left
  pub same_length : length cells ≡ length old
  pub draws : drawn s.columns (titles_drawn styles b (right_titles left (last_to_first a b g titles end))) cells
      ≡ drawn s.columns (titles_drawn styles b (right_titles start (reverse (titles_of b g (titles_from a titles))))) old

module _ (a : AmbiguousWidth) (s : Screen) (styles : List ℕ) (b : Block) (g : Group) (titles : List ℕ) (start : Rect) (old : List ℕ) where
  pub walk_back_starts : 0 < s.columns → AreaFits s (length old) start → WalkingBack a s styles b g titles start old old start (length titles)
  walk_back_starts some f = record { some = some; within = omega arith; fits = f; same_length = refl; draws = rw (take-length titles) }

  module _ (cells : List ℕ) (left : Rect) (end : ℕ) (w : WalkingBack a s styles b g titles start old cells left end) where
    pub walk_back_goes : (at : ℕ) (next : Rect) (after : List ℕ) → LastHead titles end at
        → MovedBack s styles b g (title_at a titles end at) left cells next after
        → WalkingBack a s styles b g titles start old after next at
    walk_back_goes at next after l m =
        let all : last_to_first a b g titles end
        ≡ cond (is_chosen b g.position g.alignment (get_or titles at 0)) (title_at a titles end at ∷ last_to_first a b g titles at) (last_to_first a b g titles at)
        = ap (λ (ts : List Title). reverse (titles_of b g ts)) (ap (map (title_read a)) l.is_last ∙ map-append (title_read a) (lines_from 0 (take at titles)) _)
        ∙ last-first b g (titles_from a (take at titles)) (title_at a titles end at) in
        record {
          some = w.some;
          within = omega (arith, l.before, w.within);
          fits = m.fits;
          same_length = m.same_length ∙ w.same_length;
          draws =
              m.draws (last_to_first a b g titles at)
              ∙ ap (λ (ts : List Title). drawn s.columns (titles_drawn styles b (right_titles left ts)) cells) (sym all)
              ∙ w.draws;
        }

    pub walk_back_ends : (first : ℕ) → first ≡ length (until_head titles) → end ≤ first
        → cells ≡ drawn s.columns (titles_drawn styles b (right_titles start (reverse (titles_of b g (titles_from a titles))))) old
    walk_back_ends first is-first h =
        sym (drawn-none s.columns cells) ∙ rw (no_title-before 0 titles end (omega (arith, is-first))) at w.draws

    pub walk_back_room : AreaFits s (length cells) left × (0 < s.columns)
    walk_back_room = (w.fits, w.some)

    pub walk_back_length : length cells ≡ length old
    walk_back_length = w.same_length

pub ruleset walking-back = (some-title, walk_back_starts, walk_back_goes, walk_back_ends, walk_back_room, walk_back_length)
