-- What a block's frame keeps of a cell: each part keeps everything outside its cells, and in them what styles and symbols keep.
use Prim.Native.Nat.{ℕ}
use mathlib.Core.Path.{◌≡◌, refl, ◌∙◌}
use mathlib.Core.Bool.{true}
use mathlib.Core.List.{List, [], ◌∷◌, map}
use Rattle.layout.specs.declared.Rect.{Rect}
use Rattle.layout.specs.Rect.{contains}
use Rattle.cell.specs.Cell.{with_symbol, styled}
use Rattle.block.specs.declared.Block.{Block}
use Rattle.buffer.specs.declared.Screen.{Screen}
use Rattle.buffer.specs.Drawing.{over, in_order, style_at}
use Rattle.buffer.proofs.Keeping.{Keeps, InksKeep, order_keeps, only_keeps, over_keeps}
use Rattle.border_edges.specs.declared.Edge.{Edge}
use Rattle.render_borders.specs.Borders.{border, side_edges, corner_edges, sides, corners}
use Rattle.titles.specs.Titles.{Title, titles_on}
use Rattle.shadow.specs.Shadow.{shadow_of}
use Rattle.shadow.proofs.Keeping.{in_shadow, shadow_keeps}
use Rattle.render_block.specs.Frame.{frame}

module _ (read : ℕ → ℕ) (column row : ℕ) where
  pub style_keeps : (r : Rect) (style : ℕ) → (contains r column row ≡ true → InksKeep read) → Keeps read (over r (styled style)) column row
  style_keeps r style inks = over_keeps read column row r (styled style) (λ here. (inks here).styles style)

  module _ (styles : List ℕ) (b : Block) where
    -- a side or corner
    edge_keeps : (edge : Edge) → (contains edge.part column row ≡ true → InksKeep read) → Keeps read (border styles b edge) column row
    unfolding border
    edge_keeps edge inks =
        let style = style_at styles b.border_style in
        only_keeps read column row edge.present (over edge.part (λ cell. styled style (with_symbol edge.symbol cell)))
        (λ on. over_keeps read column row edge.part (λ cell. styled style (with_symbol edge.symbol cell))
        (λ here cell. (inks here).styles style (with_symbol edge.symbol cell) ∙ (inks here).symbols edge.symbol cell))

    -- styles and symbols keep it if the cell is in one of these sides or corners
    abbrev pub KeptInEdges : List Edge → Type 0
    KeptInEdges [] = Unit {0}
    KeptInEdges (edge ∷ edges) = (contains edge.part column row ≡ true → InksKeep read) × KeptInEdges edges

    edges_keep : (edges : List Edge) → KeptInEdges edges → Keeps read (in_order (map (border styles b) edges)) column row
    edges_keep [] kept cell = refl
    edges_keep (edge ∷ edges) kept cell = edges_keep edges kept.1 (border styles b edge column row cell) ∙ edge_keeps edge kept.0 cell

    pub sides_keep : (r : Rect) → KeptInEdges (side_edges b r) → Keeps read (sides styles b r) column row
    unfolding sides
    sides_keep r kept = edges_keep (side_edges b r) kept

    pub corners_keep : (r : Rect) → KeptInEdges (corner_edges b r) → Keeps read (corners styles b r) column row
    unfolding corners
    corners_keep r kept = edges_keep (corner_edges b r) kept

    -- the whole frame, if its borders and titles keep it
    pub frame_keeps : (screen : Screen) (titles : List Title) (met : Rect)
        → (contains met column row ≡ true → InksKeep read)
        → (in_shadow screen met b.shadow column row ≡ true → InksKeep read)
        → Keeps read (sides styles b met) column row
        → Keeps read (corners styles b met) column row
        → Keeps read (titles_on styles b met titles) column row
        → Keeps read (frame styles screen titles b met) column row
    unfolding frame
    frame_keeps screen titles met here shadowed s c t =
        order_keeps read column row
        (over met (styled (style_at styles b.style))
        ∷ sides styles b met
        ∷ corners styles b met
        ∷ titles_on styles b met titles
        ∷ shadow_of styles screen met b.shadow
        ∷ [])
        (style_keeps met (style_at styles b.style) here, (s, (c, (t, (shadow_keeps read column row met styles screen b.shadow shadowed, tt)))))
