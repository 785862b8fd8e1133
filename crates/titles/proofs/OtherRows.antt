-- Theorem `titles_alone`: titles change only cells of the top row, if there is a top title, and of the bottom row, if there is a
-- bottom title.
use Prim.Native.Nat.{ℕ, ◌-◌}
use mathlib.Core.Path.{◌≡◌, refl, ◌∙◌}
use mathlib.Core.Bool.{Bool, true, false, cond}
use mathlib.Core.Logic.{dite}
use mathlib.Core.List.{List, [], ◌∷◌, ◌++◌, map, reverse}
use native.Mathlib.Decide.{ℕ_discrete}
use lib.Dec.{leb}
use Rattle.text.specs.declared.Alignment.{Alignment}
use Rattle.text.specs.declared.Alignment.TheVariants.{Left, Center, Right}
use Rattle.text.specs.declared.TitlePosition.{TitlePosition}
use Rattle.text.specs.declared.TitlePosition.TheVariants.{Top, Bottom}
use Rattle.text.specs.declared.AmbiguousWidth.{AmbiguousWidth}
use Rattle.text.specs.Line.{TextLine, lines_from}
use Rattle.text.proofs.Bools.{neither}
use Rattle.layout.specs.declared.Rect.{Rect}
use Rattle.layout.specs.Rect.{is_empty}
use Rattle.text.specs.Lists.{some}
use Rattle.block.specs.declared.Block.{Block}
use Rattle.block.specs.Inner.{title_is_at, has_title_at}
use Rattle.title.proofs.Cells.{other_rows}
use Rattle.titles.specs.Titles.{Title, title_read, titles_from, is_chosen, filtered_titles, PlacedTitle, title_drawn, titles_drawn, title_width, total_width, titles_row, titles_area, past_title, centered_from, center_offset, truncated_width, before_title, left_titles, untruncated_titles, truncated_titles, center_titles, right_titles, groups_in, titles_at, titles_on}

-- ---- titles are placed in one row

module _ (row : ℕ) where
  -- an area of one row other than the cell's, and placed titles in such areas
  abbrev Elsewhere : Rect → Type 0
  Elsewhere area = (area.height ≡ 1) × (row ≡ area.y → ⊥)

  abbrev AllElsewhere : List PlacedTitle → Type 0
  AllElsewhere [] = Unit {0}
  AllElsewhere (p ∷ ps) = Elsewhere p.area × AllElsewhere ps

  either_elsewhere : (test : Bool) (ps qs : List PlacedTitle) → AllElsewhere ps → AllElsewhere qs → AllElsewhere (cond test ps qs)
  either_elsewhere true ps qs e f = e
  either_elsewhere false ps qs e f = f

  both-elsewhere : (ps qs : List PlacedTitle) → AllElsewhere ps → AllElsewhere qs → AllElsewhere (ps ++ qs)
  both-elsewhere [] qs e f = f
  both-elsewhere (p ∷ ps) qs e f = (e.0, both-elsewhere ps qs e.1 f)

  -- titles are placed in parts of their area
  left-elsewhere : (area : Rect) (ts : List Title) → Elsewhere area → AllElsewhere (left_titles area ts)
  left-elsewhere area [] e = tt
  left-elsewhere area (t ∷ ts) e = either_elsewhere (is_empty area) [] _ tt (e, left-elsewhere (past_title (title_width t) area) ts e)

  untruncated_elsewhere : (area : Rect) (ts : List Title) → Elsewhere area → AllElsewhere (untruncated_titles area ts)
  untruncated_elsewhere area [] e = tt
  untruncated_elsewhere area (t ∷ ts) e = (e, untruncated_elsewhere (past_title (title_width t) area) ts e)

  truncated_elsewhere : (offset : ℕ) (area : Rect) (ts : List Title) → Elsewhere area → AllElsewhere (truncated_titles offset area ts)
  truncated_elsewhere offset area [] e = tt
  truncated_elsewhere offset area (t ∷ ts) e =
      let width : ℕ = truncated_width offset area t in
      either_elsewhere (is_empty area) [] _ tt (e, truncated_elsewhere (offset - width - 1) (past_title width area) ts e)

  center-elsewhere : (area : Rect) (ts : List Title) → Elsewhere area → AllElsewhere (center_titles area ts)
  unfolding center_titles
  center-elsewhere area ts e =
      either_elsewhere (leb (total_width ts) area.width) _ _
      (untruncated_elsewhere (centered_from (total_width ts) area) ts e) (truncated_elsewhere (center_offset (total_width ts) area) area ts e)

  right-elsewhere : (area : Rect) (ts : List Title) → Elsewhere area → AllElsewhere (right_titles area ts)
  right-elsewhere area [] e = tt
  right-elsewhere area (t ∷ ts) e = either_elsewhere (is_empty area) [] _ tt (e, right-elsewhere (before_title (title_width t) area) ts e)

  module _ (b : Block) where
    others-at : (position : TitlePosition) (met : Rect) (ts : List Title) → (row ≡ titles_row position met → ⊥) → AllElsewhere (titles_at b position met ts)
    unfolding groups_in
    others-at position met ts other =
        let area = titles_area b position met in
        let e : Elsewhere area = (refl, other) in
        both-elsewhere (left_titles area (filtered_titles b position Left ts) ++ center_titles area (filtered_titles b position Center ts)) _
        (both-elsewhere (left_titles area (filtered_titles b position Left ts)) _
        (left-elsewhere area (filtered_titles b position Left ts) e) (center-elsewhere area (filtered_titles b position Center ts) e))
        (right-elsewhere area (reverse (filtered_titles b position Right ts)) e)

    -- ---- at a position without a title none is placed

    none_filtered : (a : AmbiguousWidth) (position : TitlePosition) (alignment : Alignment) (ts : List TextLine) → some (λ (t : TextLine). title_is_at b position t.head) ts ≡ false
        → filtered_titles b position alignment (map (title_read a) ts) ≡ []
    unfolding is_chosen
    none_filtered a position alignment [] e = refl
    none_filtered a position alignment (t ∷ ts) e =
        let n = neither (title_is_at b position t.head) (some (λ (t : TextLine). title_is_at b position t.head) ts) e in
        rw (n.0, none_filtered a position alignment ts n.1)

    none-at : (a : AmbiguousWidth) (position : TitlePosition) (met : Rect) (ts : List TextLine) → some (λ (t : TextLine). title_is_at b position t.head) ts ≡ false → AllElsewhere (titles_at b position met (map (title_read a) ts))
    unfolding groups_in center_titles
    none-at a position met ts e =
        rw (none_filtered a position Left ts e, none_filtered a position Center ts e, none_filtered a position Right ts e)
        (both-elsewhere (cond (leb 0 (titles_area b position met).width) [] []) [] (either_elsewhere (leb 0 (titles_area b position met).width) [] [] tt tt) tt)

    position_elsewhere : (a : AmbiguousWidth) (position : TitlePosition) (met : Rect) (records : List ℕ) → (row ≡ titles_row position met → has_title_at b records position ≡ false)
        → AllElsewhere (titles_at b position met (titles_from a records))
    unfolding has_title_at
    position_elsewhere a position met records h =
        dite (ℕ_discrete row (titles_row position met))
        (λ e. none-at a position met (lines_from 0 records) (h e))
        (others-at position met (titles_from a records))

-- ---- so the cell is unchanged

module _ (column row : ℕ) (styles : List ℕ) (b : Block) where
  elsewhere_alone : (ps : List PlacedTitle) → AllElsewhere row ps → (cell : ℕ) → titles_drawn styles b ps column row cell ≡ cell
  elsewhere_alone [] e cell = refl
  elsewhere_alone (p ∷ ps) e cell =
      elsewhere_alone ps e.1 (title_drawn styles b p column row cell)
      ∙ other_rows styles b.titles_style p.area p.alignment p.title.glyphs column row cell e.0.0 e.0.1

  pub titles_alone : (a : AmbiguousWidth) (met : Rect) (records : List ℕ)
      → (row ≡ titles_row Top met → has_title_at b records Top ≡ false)
      → (row ≡ titles_row Bottom met → has_title_at b records Bottom ≡ false)
      → (cell : ℕ) → titles_on styles b met (titles_from a records) column row cell ≡ cell
  unfolding titles_on
  titles_alone a met records top bottom =
      elsewhere_alone (titles_at b Top met (titles_from a records) ++ titles_at b Bottom met (titles_from a records))
      (both-elsewhere row (titles_at b Top met (titles_from a records)) _ (position_elsewhere row b a Top met records top) (position_elsewhere row b a Bottom met records bottom))
