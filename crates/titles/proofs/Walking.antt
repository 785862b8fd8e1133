-- The loop that draws titles one after another.
use Prim.Native.Nat.{ℕ, ◌<◌}
use mathlib.Core.Path.{◌≡◌, refl, sym, ap, ◌∙◌}
use mathlib.Core.List.{List, [], ◌∷◌}
use lib.ListN.{length}
use Rattle.text.specs.declared.AmbiguousWidth.{AmbiguousWidth}
use Rattle.text.specs.Line.{Opens}
use Rattle.text.specs.LinesExtra.{cut_lines}
use Rattle.buffer.specs.declared.Screen.{Screen}
use Rattle.buffer.specs.Drawing.{drawn}
use Rattle.buffer.proofs.Drawn.{drawn-none}
use Rattle.block.specs.declared.Block.{Block}
use Rattle.titles.specs.declared.Place.{Place}
use Rattle.titles.specs.declared.Group.{Group}
use Rattle.titles.specs.Titles.{titles_from, titles_drawn}
use Rattle.titles.specs.PlacingExtra.{placed_titles, AreaFits, titles_of, title_of, Moved}
use Rattle.titles.proofs.CutTitles.{cut_titles, cut_read}

-- Before each turn: drawing the titles of the lines left, starting at place `p`, completes the drawing of all titles that started at
-- place `start` on the old cells.
pub record Walking (a : AmbiguousWidth) (s : Screen) (styles : List ℕ) (b : Block) (g : Group) (titles : List ℕ) (start : Place) (old : List ℕ) (cells : List ℕ) (p : Place) (left : List (ℕ × List ℕ)) : Type 0 where
  pub some : 0 < s.columns
  pub fits : AreaFits s (length cells) p.area
  pub same_length : length cells ≡ length old
  pub draws : drawn s.columns (titles_drawn styles b (placed_titles p (titles_of b g (cut_titles a left)))) cells
      ≡ drawn s.columns (titles_drawn styles b (placed_titles start (titles_of b g (titles_from a titles)))) old

module _ (a : AmbiguousWidth) (s : Screen) (styles : List ℕ) (b : Block) (g : Group) (titles : List ℕ) (start : Place) (old : List ℕ) where
  pub walk_starts : (left : List (ℕ × List ℕ)) → left ≡ cut_lines titles → 0 < s.columns → Opens titles → AreaFits s (length old) start.area
      → Walking a s styles b g titles start old old start left
  walk_starts left e some o f = record { some = some; fits = f; same_length = refl; draws = rw (e, cut_read a titles o) }

  module _ (cells : List ℕ) (p : Place) (left : List (ℕ × List ℕ)) (w : Walking a s styles b g titles start old cells p left) where
    pub walk_goes : (line : ℕ × List ℕ) (others : List (ℕ × List ℕ)) (next : Place) (after : List ℕ) → left ≡ line ∷ others
        → Moved s styles b g (title_of a line.0 line.1) p cells next after
        → Walking a s styles b g titles start old after next others
    walk_goes line others next after e m =
        record {
          some = w.some;
          fits = m.fits;
          same_length = m.same_length ∙ w.same_length;
          draws =
              m.draws (cut_titles a others)
              ∙ ap (λ (ls : List (ℕ × List ℕ)). drawn s.columns (titles_drawn styles b (placed_titles p (titles_of b g (cut_titles a ls)))) cells) (sym e)
              ∙ w.draws;
        }

    pub walk_ends : left ≡ [] → cells ≡ drawn s.columns (titles_drawn styles b (placed_titles start (titles_of b g (titles_from a titles)))) old
    walk_ends e = sym (drawn-none s.columns cells) ∙ rw e at w.draws

    pub walk_room : AreaFits s (length cells) p.area × (0 < s.columns)
    walk_room = (w.fits, w.some)

    pub walk_length : length cells ≡ length old
    walk_length = w.same_length

pub ruleset walking = (walk_starts, walk_goes, walk_ends, walk_room, walk_length)
