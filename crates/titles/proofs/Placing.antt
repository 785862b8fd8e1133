-- Titles placed one after another: a title's alignment, the first centred place, and placing one more title.
use Prim.Native.Nat.{ℕ, ◌<◌, ◌≤◌}
use mathlib.Core.Path.{◌≡◌, refl, sym, ap, ◌∙◌}
use mathlib.Core.Bool.{Bool, true, false}
use mathlib.Core.List.{List, [], ◌∷◌}
use borrow.Author.Tests.{lt-ltb, le-ltb, le-leb, lt-leb}
use lib.ListN.{length}
use Rattle.text.specs.declared.Alignment.{Alignment}
use Rattle.text.specs.declared.Alignment.TheVariants.{Left, Right}
use Rattle.text.specs.Line.{Glyph}
use Rattle.layout.specs.declared.Rect.{Rect}
use Rattle.layout.specs.Rect.{is_empty}
use Rattle.buffer.specs.declared.Screen.{Screen}
use Rattle.buffer.specs.Drawing.{Drawing, drawn}
use Rattle.buffer.proofs.Drawn.{drawn-length, drawn_then}
use Rattle.block.specs.declared.Block.{Block}
use Rattle.title.specs.Title.{title_line_width, title_in}
use Rattle.titles.specs.declared.Place.{Place}
use Rattle.titles.specs.declared.Group.{Group}
use Rattle.titles.specs.Titles.{Title, is_chosen, PlacedTitle, given_alignment, titles_drawn, with_x, with_width, centered_from, center_offset}
use Rattle.titles.specs.PlacingExtra.{placed_width, placed_alignment, next_place, placed_at, placed_titles, center_place, AreaFits, titles_of, Moved}
use Rattle.titles.proofs.Areas.{TestedArea, past_fits}

-- ---- alignment, and the first centred place

module _ (p : Place) (head : ℕ) where
  -- truncated titles are drawn right while the offset is above 0
  pub set-right : p.truncates ≡ true → 0 < p.offset → Right ≡ placed_alignment p head
  set-right t h = rw (t, lt-ltb 0 p.offset h)

  -- and left when it is 0
  pub set-left : p.truncates ≡ true → p.offset ≤ 0 → Left ≡ placed_alignment p head
  set-left t h = rw (t, le-ltb 0 p.offset h)

  -- other titles are drawn as their heads give
  pub not_set : (a : Alignment) → p.truncates ≡ false → a ≡ given_alignment head → a ≡ placed_alignment p head
  not_set a f e = rw f e

pub ruleset alignments = (set-right, set-left, not_set)

module _ (area : Rect) (total : ℕ) where
  -- titles that fit are centred
  pub center-fits : (x : ℕ) → total ≤ area.width → x ≡ (centered_from total area).x
      → record { area = with_width total (with_x x area); offset = 0; truncates = false } ≡ center_place area total
  unfolding center_place
  center-fits x h e = rw (le-leb total area.width h, e)

  -- titles that don't fit get an offset of half the excess
  pub center_truncates : area.width < total → record { area = area; offset = center_offset total area; truncates = true } ≡ center_place area total
  unfolding center_place
  center_truncates h = rw (lt-leb total area.width h)

pub ruleset center-places = (center-fits, center_truncates)

-- ---- one more title

-- an empty area gets no title
pub placed-none : (p : Place) (ts : List Title) → is_empty p.area ≡ true → placed_titles p ts ≡ []
placed-none p [] e = refl
placed-none p (t ∷ ts) e = rw e

-- a title drawn in its part of the area
module _ (p : Place) (glyphs : List Glyph) (given width : ℕ) (is-width : given ≡ title_line_width glyphs) (placed : width ≡ placed_width p given) where
  width-placed : width ≡ placed_width p (title_line_width glyphs)
  width-placed = placed ∙ ap (placed_width p) is-width

  pub placed_next : (next : Place) → next ≡ next_place p width → next ≡ next_place p (placed_width p (title_line_width glyphs))
  placed_next next e = e ∙ ap (next_place p) width-placed

  pub placed-drawn : (columns : ℕ) (styles : List ℕ) (style head : ℕ) (a : Alignment) (cells after : List ℕ) → a ≡ placed_alignment p head
      → after ≡ drawn columns (title_in styles style (with_width width p.area) a glyphs) cells
      → after ≡ drawn columns (title_in styles style (with_width (placed_width p (title_line_width glyphs)) p.area) (placed_alignment p head) glyphs) cells
  placed-drawn columns styles style head a cells after e f = f ∙ rw (width-placed, e)

pub ruleset placed = (placed_next, placed-drawn)

module _ (s : Screen) (styles : List ℕ) (b : Block) (g : Group) (t : Title) (p : Place) (cells : List ℕ) where
  -- in an empty area neither this title nor any other is drawn
  pub moved-full : (empty : Bool) → TestedArea s (length cells) p.area empty → empty ≡ true → Moved s styles b g t p cells p cells
  moved-full empty a e =
      let none : is_empty p.area ≡ true = sym a.tested ∙ e in
      record {
        fits = a.fits;
        same_length = refl;
        draws = λ ts.
            ap (λ (placed : List PlacedTitle). drawn s.columns (titles_drawn styles b placed) cells)
            (placed-none p (titles_of b g ts) none ∙ sym (placed-none p (titles_of b g (t ∷ ts)) none));
      }

  module _ (has : Bool) (chosen : has ≡ is_chosen b g.position g.alignment t.head) where
    -- a title of another group isn't drawn
    pub moved_other : AreaFits s (length cells) p.area → has ≡ false → Moved s styles b g t p cells p cells
    moved_other fits f =
        record {
          fits = fits;
          same_length = refl;
          draws = λ ts. rw (← chosen, f);
        }

    -- a title of the group is drawn if the area is non-empty
    module _ (next : Place) (after : List ℕ) (of-group : has ≡ true) where
      abbrev width : ℕ
      width = placed_width p (title_line_width t.glyphs)

      abbrev title : Drawing
      title = title_in styles b.titles_style (with_width width p.area) (placed_alignment p t.head) t.glyphs

      abbrev others : List Title → List PlacedTitle
      others ts = placed_titles (next_place p width) (titles_of b g ts)

      first-placed : is_empty p.area ≡ false → (ts : List Title)
          → placed_at p t ∷ others ts ≡ placed_titles p (titles_of b g (t ∷ ts))
      first-placed some-room ts = rw (← chosen, of-group, some-room)

      pub moved-drawn : (empty : Bool) → TestedArea s (length cells) p.area empty → empty ≡ false
          → next ≡ next_place p width → after ≡ drawn s.columns title cells → Moved s styles b g t p cells next after
      moved-drawn empty a e en ea =
          let some-room : is_empty p.area ≡ false = sym a.tested ∙ e in
          let n : length after ≡ length cells = ap length ea ∙ drawn-length s.columns title cells in
          record {
            fits = rw (en, n) (past_fits s (length cells) p.area width (a.fits some-room));
            same_length = n;
            draws = λ ts.
                rw (en, ea) (drawn_then s.columns title (titles_drawn styles b (others ts)) cells)
                ∙ ap (λ (placed : List PlacedTitle). drawn s.columns (titles_drawn styles b placed) cells) (first-placed some-room ts);
          }

pub ruleset moves = (moved-full, moved_other, moved-drawn)
