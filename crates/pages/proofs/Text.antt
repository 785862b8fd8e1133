-- For a text of one-cell glyphs: from its glyphs to those that its lines place.
-- fit_text: the lines are no wider than the limit and consist of one-cell glyphs.
-- placed-glyphs: the non-whitespace glyphs placed are those of the text, in text order.
use Prim.Native.Nat.{ℕ, suc, ◌+◌, ◌<◌, ◌≤◌}
use mathlib.Core.Path.{◌≡◌, refl, ap, ◌∙◌, subst}
use mathlib.Core.Bool.{Bool, true, false, cond, not, ◌&&◌}
use mathlib.Core.List.{List, [], ◌∷◌, map, map-append}
use native.Mathlib.Omega.{arith}
use borrow.Author.Tests.{le-ltb, eq-eqb, eqb-true}
use lib.Dec.{eqb}
use Rattle.text.specs.declared.Alignment.{Alignment}
use Rattle.text.specs.Line.{Glyph, TextLine, lines_from, glyphs_of, glyphs_from, total, Start, starts_from, Opens}
use Rattle.text.specs.Lists.{count_of}
use Rattle.text.proofs.Lists.{count-append}
use Rattle.text.proofs.LineGlyphs.{line_glyphs, all_glyphs}
use Rattle.cell.specs.Cell.{blank_symbol}
use Rattle.layout.specs.declared.Rect.{Rect}
use Rattle.wrapping.specs.declared.Rule.{Rule}
use Rattle.wrapping.specs.Wrapping.{is_over_wide, not_over_wide}
use Rattle.nothing_lost.specs.Glyphs.{solids, glyphs_of_all, Widths, NoWider, none, one}
use Rattle.nothing_lost.proofs.Lists.{glyphs-append}
use Rattle.nothing_lost.proofs.Solid.{solids-append, no_solid_lost}
use Rattle.nothing_lost.proofs.Accounted.{accounted}
use Rattle.nothing_lost.proofs.Bounds.{no_wider-append, one_cell}
use Rattle.line_composer.specs.declared.Method.TheVariants.{WordWrap}
use Rattle.line_composer.specs.Lines.{Line, lines}
use Rattle.render_line.specs.RenderLine.{drawn_starts}
use Rattle.text.proofs.TextLines.{opens-none}
use Rattle.tally_lines.proofs.Emitted.{lists, wrapped, lines-wrapped}
use Rattle.pages.specs.Pages.{Placement, placement_of, solid_placed, placements_from}
use Rattle.pages.specs.Reading.{OneCell}
use Rattle.pages.proofs.Fit.{Fit}
use Rattle.pages.proofs.Offset.{offset-fits}
use Rattle.pages.proofs.Placed.{is-placed}

-- ---- the glyphs of the lines are the text's

-- whether a glyph violates `OneCell`, as a Bool, since the laws on wrapping count glyphs by such tests
abbrev unfit : Glyph → Bool
unfit g = not (eqb g.width 1 && cond g.whitespace (eqb g.symbol blank_symbol) (not (eqb g.symbol blank_symbol)))

none-unfit : (gs : List Glyph) → OneCell gs → count_of unfit gs ≡ 0
none-unfit [] h = refl
none-unfit (g ∷ gs) h = rw (eq-eqb g.width 1 h.0.0, h.0.1) (go (eqb g.symbol blank_symbol) (none-unfit gs h.1))
  where
    go : (b : Bool) → count_of unfit gs ≡ 0 → cond (not (cond b b (not b))) 1 0 + count_of unfit gs ≡ 0
    go true e = omega arith
    go false e = omega arith

all_fit : (gs : List Glyph) → count_of unfit gs ≡ 0 → OneCell gs
all_fit [] e = tt
all_fit (g ∷ gs) e = go (eqb g.width 1) g.whitespace (eqb g.symbol blank_symbol) (eqb-true g.width 1) (all_fit gs) e
  where
    go : (wide a b : Bool) → (wide ≡ true → g.width ≡ 1) → (count_of unfit gs ≡ 0 → OneCell gs)
        → cond (not (wide && cond a b (not b))) 1 0 + count_of unfit gs ≡ 0 → ((g.width ≡ 1) × (a ≡ b)) × OneCell gs
    go true true true w rest e = ((w refl, refl), rest (omega arith))
    go true false false w rest e = ((w refl, refl), rest (omega arith))
    go true true false w rest e = absurd (omega arith)
    go true false true w rest e = absurd (omega arith)
    go false a b w rest e = absurd (omega arith)

one-wide : (gs : List Glyph) → OneCell gs → Widths 1 1 gs
one-wide [] h = none
one-wide (g ∷ gs) h = one {g = g} (omega (arith, h.0.0)) (omega (arith, h.0.0)) (one-wide gs h.1)

module _ (u : Rule) (some : 0 < u.limit) where
  -- wrapping adds no glyph
  wrapped_fit : (ls : List TextLine) → count_of unfit (glyphs_of_all (wrapped u ls)) ≤ count_of unfit (line_glyphs u.ambiguous ls)
  wrapped_fit [] = omega arith
  wrapped_fit (line ∷ rest) = simp (glyphs-append, count-append) (omega (arith, accounted u (glyphs_of u.ambiguous line) some unfit, wrapped_fit rest))

  wrapped-narrow : (ls : List TextLine) → count_of unfit (line_glyphs u.ambiguous ls) ≡ 0 → NoWider u.limit (wrapped u ls)
  wrapped-narrow [] e = none
  wrapped-narrow (line ∷ rest) e =
      let parts = count-append unfit (glyphs_of u.ambiguous line) (line_glyphs u.ambiguous rest) in
      no_wider-append
      (one_cell u (glyphs_of u.ambiguous line) (one-wide (glyphs_of u.ambiguous line) (all_fit (glyphs_of u.ambiguous line) (omega arith))))
      (wrapped-narrow rest (omega arith))

  -- step 1 skips no glyph of one cell
  none-skipped : (gs : List Glyph) → OneCell gs → not_over_wide u gs ≡ gs
  unfolding is_over_wide
  none-skipped [] h = refl
  none-skipped (g ∷ gs) h = rw (le-ltb u.limit g.width (omega (arith, h.0.0)), none-skipped gs h.1)

  wrapped-solids : (ls : List TextLine) → count_of unfit (line_glyphs u.ambiguous ls) ≡ 0 → solids (glyphs_of_all (wrapped u ls)) ≡ solids (line_glyphs u.ambiguous ls)
  wrapped-solids [] e = refl
  wrapped-solids (line ∷ rest) e =
      let parts = count-append unfit (glyphs_of u.ambiguous line) (line_glyphs u.ambiguous rest) in
      let kept = none-skipped (glyphs_of u.ambiguous line) (all_fit (glyphs_of u.ambiguous line) (omega arith)) in
      simp (glyphs-append, solids-append, no_solid_lost u (glyphs_of u.ambiguous line) some, kept, wrapped-solids rest (omega arith))

fit_lists : (most : ℕ) (ls : List Line) → count_of unfit (glyphs_of_all (lists ls)) ≡ 0 → NoWider most (lists ls) → Fit most ls
fit_lists most [] e n = tt
fit_lists most (line ∷ rest) e (one h n) =
    let parts = count-append unfit line.glyphs (glyphs_of_all (lists rest)) in
    ((all_fit line.glyphs (omega arith), h), fit_lists most rest (omega arith) n)

-- ---- the glyphs of the lines that are placed

abbrev shown : List Placement → List Glyph
shown ps = map (λ (p : Placement). p.glyph) ps

-- every glyph of a line that fits is placed
module _ (inner : Rect) (number : ℕ) where
  abbrev placed_from : ℕ → List Glyph → List Start
  placed_from start gs = solid_placed inner.width (starts_from start gs)

  starts-placed : (start : ℕ) (gs : List Glyph) → OneCell gs → start + total gs ≤ inner.width
      → shown (map (placement_of inner number) (placed_from start gs)) ≡ solids gs
  unfolding placement_of
  starts-placed start [] h k = refl
  starts-placed start (g ∷ gs) h k =
      rw (is-placed inner.width (record { start = start; glyph = g }) (omega (arith, h.0.0)) (omega arith))
      (go g.whitespace (starts-placed (start + g.width) gs h.1 (omega arith)))
    where
      go : (b : Bool) → shown (map (placement_of inner number) (placed_from (start + g.width) gs)) ≡ solids gs
          → shown (map (placement_of inner number) (cond (not b) (record { start = start; glyph = g } ∷ placed_from (start + g.width) gs) (placed_from (start + g.width) gs)))
          ≡ cond b (solids gs) (g ∷ solids gs)
      go true e = e
      go false e = ap {B = List Glyph} (λ (l : List Glyph). g ∷ l) e

  line-placed : (line : Line) → OneCell line.glyphs → total line.glyphs ≤ inner.width
      → shown (map (placement_of inner number) (solid_placed inner.width (drawn_starts inner.width line))) ≡ solids line.glyphs
  unfolding drawn_starts
  line-placed line h k = starts-placed _ line.glyphs h (offset-fits line.alignment inner.width (total line.glyphs) k)

all_placed : (inner : Rect) (number : ℕ) (ls : List Line) → Fit inner.width ls → shown (placements_from inner number ls) ≡ solids (glyphs_of_all (lists ls))
all_placed inner number [] f = refl
all_placed inner number (line ∷ rest) f =
    map-append (λ (p : Placement). p.glyph)
    (map (placement_of inner number) (solid_placed inner.width (drawn_starts inner.width line))) (placements_from inner (suc number) rest)
    ∙ rw (line-placed inner number line f.0.0 f.0.1, all_placed inner (suc number) rest f.1, solids-append)

-- ---- the text

module _ (u : Rule) (text : List ℕ) (opens : Opens text) where
  same-glyphs : line_glyphs u.ambiguous (lines_from 0 text) ≡ glyphs_from u.ambiguous 0 text
  same-glyphs = all_glyphs u.ambiguous 0 text (opens-none text opens)

  lines_fit : OneCell (glyphs_from u.ambiguous 0 text) → count_of unfit (line_glyphs u.ambiguous (lines_from 0 text)) ≡ 0
  lines_fit cells = ap (count_of unfit) same-glyphs ∙ none-unfit (glyphs_from u.ambiguous 0 text) cells

pub fit_text : (u : Rule) (default : Alignment) (text : List ℕ) → 0 < u.limit → Opens text → OneCell (glyphs_from u.ambiguous 0 text)
    → Fit u.limit (lines u WordWrap default text)
fit_text u default text some opens cells =
    let fit = lines_fit u text opens cells in
    fit_lists u.limit (lines u WordWrap default text)
    (rw (lines-wrapped u default text) (omega (arith, wrapped_fit u some (lines_from 0 text))))
    (rw (lines-wrapped u default text) (wrapped-narrow u some (lines_from 0 text) fit))

pub placed-glyphs : (inner : Rect) (u : Rule) (default : Alignment) (text : List ℕ) → u.limit ≡ inner.width → 0 < u.limit → Opens text
    → OneCell (glyphs_from u.ambiguous 0 text)
    → map (λ (p : Placement). p.glyph) (placements_from inner 0 (lines u WordWrap default text)) ≡ solids (glyphs_from u.ambiguous 0 text)
placed-glyphs inner u default text limit some opens cells =
    all_placed inner 0 (lines u WordWrap default text) (subst (λ (most : ℕ). Fit most (lines u WordWrap default text)) limit (fit_text u default text some opens cells))
    ∙ ap (λ (ls : List (List Glyph)). solids (glyphs_of_all ls)) (lines-wrapped u default text)
    ∙ wrapped-solids u some (lines_from 0 text) (lines_fit u text opens cells)
    ∙ ap solids (same-glyphs u text opens)
