-- Drawing a side or corner, and several in order.
use Prim.Native.Nat.{ℕ, ◌<◌, ◌≤◌, ◌+◌}
use mathlib.Core.Path.{◌≡◌, refl, sym, ◌∙◌}
use mathlib.Core.Bool.{true, false}
use mathlib.Core.List.{List, [], ◌∷◌, map}
use lib.ListN.{length, drop, get_or}
use Rattle.std.proofs.lemmas.List.{drop_more, drop_all}
use Rattle.block.specs.declared.Block.{Block}
use Rattle.buffer.specs.declared.Ink.TheVariants.{Both}
use Rattle.buffer.specs.declared.Screen.{Screen}
use Rattle.buffer.specs.Drawing.{drawn, over, in_order, style_at}
use Rattle.buffer.specs.InkExtra.{inked}
use Rattle.buffer.proofs.Drawn.{drawn-none}
use Rattle.buffer.proofs.Order.{first_then, last-drawn, only_drawn, only_spared}
use Rattle.border_edges.specs.declared.Edge.{Edge}
use Rattle.layout.specs.declared.Rect.{Rect}
use Rattle.render_borders.specs.Borders.{border, side_edges, corner_edges, sides, corners}
use Rattle.render_borders.specs.BordersExtra.{EdgeFits, EdgesFit}

-- `next` is `cells` after a side or corner is drawn, if it is present
abbrev Drew : ℕ → List ℕ → Block → Edge → List ℕ → List ℕ → Type 0
Drew columns styles b edge cells next = next ≡ drawn columns (border styles b edge) cells

module _ (columns : ℕ) (some : 0 < columns) (styles : List ℕ) (b : Block) (edge : Edge) (cells : List ℕ) where
  -- a present side or corner: its cells get the symbol and the border style
  pub border-drawn : (next : List ℕ) (style : ℕ) → edge.present ≡ true → style ≡ style_at styles b.border_style
      → next ≡ drawn columns (over edge.part (inked (Both edge.symbol style))) cells → Drew columns styles b edge cells next
  unfolding border inked
  border-drawn next style on e p = only_drawn columns edge.present _ cells some next on (rw e at p)

  -- an absent one: no cell changes
  pub border_absent : edge.present ≡ false → Drew columns styles b edge cells cells
  unfolding border
  border_absent off = only_spared columns edge.present _ cells some off

pub ruleset borders = (border-drawn, border_absent)

-- `cells` are the cells after the first `i` of the sides or corners are drawn: the others give what all give from the start
pub record DrawingEdges (s : Screen) (styles : List ℕ) (b : Block) (edges : List Edge) (i : ℕ) (start cells : List ℕ) : Type 0 where
  pub rest : drawn s.columns (in_order (map (border styles b) (drop i edges))) cells ≡ drawn s.columns (in_order (map (border styles b) edges)) start
  pub fits : EdgesFit s (length cells) (drop i edges)

module _ (s : Screen) (styles : List ℕ) (b : Block) (edges : List Edge) where
  pub drawing_starts : (start : List ℕ) → EdgesFit s (length start) edges → DrawingEdges s styles b edges 0 start start
  drawing_starts start fits = record { rest = refl; fits = fits }

  module _ (i : ℕ) (start cells : List ℕ) (so : DrawingEdges s styles b edges i start cells) where
    pub next_fits : (d : Edge) → i < length edges → EdgeFits s (length cells) (get_or edges i d)
    next_fits d k = (rw (drop_more edges i d k) at so.fits).0

    pub drawing_on : (d : Edge) (next : List ℕ) → i < length edges → length next ≡ length cells → Drew s.columns styles b (get_or edges i d) cells next
        → DrawingEdges s styles b edges (i + 1) start next
    drawing_on d next k same p = record {
      rest =
          first_then s.columns (border styles b (get_or edges i d)) (map (border styles b) (drop (i + 1) edges)) cells next _ p refl
          ∙ (rw (drop_more edges i d k) at so.rest);
      fits = rw same (rw (drop_more edges i d k) at so.fits).1;
    }

    pub drawing_ends : length edges ≤ i → cells ≡ drawn s.columns (in_order (map (border styles b) edges)) start
    drawing_ends k = sym (drawn-none s.columns cells) ∙ (rw (drop_all i edges k) at so.rest)

-- the sides are drawn, then the corners
pub borders-drawn : (columns : ℕ) (styles : List ℕ) (b : Block) (r : Rect) (first second : List Edge) (cells next last : List ℕ)
    → first ≡ side_edges b r → second ≡ corner_edges b r
    → next ≡ drawn columns (in_order (map (border styles b) first)) cells → last ≡ drawn columns (in_order (map (border styles b) second)) next
    → last ≡ drawn columns (in_order (sides styles b r ∷ corners styles b r ∷ [])) cells
unfolding sides corners
borders-drawn columns styles b r first second cells next last e f p q =
    first_then columns (sides styles b r) (corners styles b r ∷ []) cells next last (rw e at p) (last-drawn columns (corners styles b r) next last (rw f at q))
