-- The loop of `write_glyphs`: the glyphs of a line written on its row in turn.
use Prim.Native.Nat.{ℕ, ◌+◌, ◌*◌, ◌≤◌, ◌<◌, ◌^◌}
use mathlib.Core.Path.{◌≡◌, refl, sym, ◌∙◌}
use mathlib.Core.Bool.{Bool, true, false, cond}
use mathlib.Core.List.{List, [], ◌∷◌}
use native.Mathlib.Nat.{add-zero, add_assoc}
use native.Mathlib.Numerals.{add-one}
use native.Mathlib.Omega.{arith}
use mir.Syntax.{w64}
use mir.Val.{Fits as Holds}
use borrow.Author.Tests.{lt-ltb, le-ltb}
use lib.Dec.{ltb}
use lib.ListN.{length, get_or, drop, drop_of_length-le}
use lib.Seq.{drop-cons}
use Rattle.text.specs.declared.AmbiguousWidth.{AmbiguousWidth}
use Rattle.text.specs.Record.{width_of}
use Rattle.text.specs.Line.{Start, numbered, starts_from}
use Rattle.text.specs.Lists.{count_of}
use Rattle.wrapping.specs.declared.Rule.{Rule}
use Rattle.std.specs.Prelude.{Option, Some, None}
use Rattle.wrapping.specs.RunsExtra.{fitting_of}
use Rattle.wrapping.specs.Wrapping.{is_over_wide, not_over_wide}
use Rattle.buffer.specs.Drawing.{changed, style_at}
use Rattle.buffer.proofs.Changed.{length-changed, changed-none, changed_then}
use Rattle.wrapping.proofs.Fittings.{fits-read_as, fits-limit, fits-most, over-limit}
use Rattle.place.specs.declared.Place.{Place}
use Rattle.place.specs.Place.{place_of}
use Rattle.line_composer.specs.Places.{is_placed, is_clipped}
use Rattle.render_glyphs.specs.declared.GlyphCounts.{GlyphCounts}
use Rattle.render_glyphs.specs.RenderGlyphs.{glyph_on, glyphs_on}
use Rattle.render_glyphs.specs.WritingExtra.{written_at, with_place, starts_of, Wrote}
use Rattle.render_glyphs.proofs.OneGlyph.{start_of, written_by_rule, place_counts, place_one}

-- the glyphs from record i on, the first starting in the given column
abbrev pub starts_left : Rule → List ℕ → ℕ → ℕ → List Start
starts_left u records column i = starts_from column (not_over_wide u (numbered u.ambiguous i (drop i records)))

-- Invariant of `write_glyphs`: the glyphs before record i are written. Writing the others on the row gives the same cells as
-- writing all on the old row, and the counts so far plus those of the others are those of all.
pub record Writing (styles : List ℕ) (style text-style : ℕ) (u : Rule) (records old row : List ℕ) (counts : GlyphCounts) (column i : ℕ) : Type 0 where
  pub style_read : text-style ≡ style_at styles style
  pub reached : i ≤ length records
  pub same_length : length row ≡ length old
  pub near : column ≤ 7 * i
  pub few : counts.placed + counts.clipped ≤ i
  pub same_cells : changed (glyphs_on styles style (length old) (starts_left u records column i)) row
      ≡ changed (glyphs_on styles style (length old) (starts_of u 0 records)) old
  pub same_placed : counts.placed + count_of (is_placed (length old)) (starts_left u records column i) ≡ count_of (is_placed (length old)) (starts_of u 0 records)
  pub same_clipped : counts.clipped + count_of (is_clipped (length old)) (starts_left u records column i) ≡ count_of (is_clipped (length old)) (starts_of u 0 records)

-- a glyph written by its place is drawn by the rule, whatever its record number
by_rule : (a : AmbiguousWidth) (styles : List ℕ) (style area number column word : ℕ) (row : List ℕ)
    → written_at styles (style_at styles style) (place_of area column (width_of a word)) column word row ≡ changed (glyph_on styles style area (start_of a number column word)) row
unfolding glyph_on
by_rule a styles style area number column word row = written_by_rule styles style column word row (place_of area column (width_of a word))

-- counting a glyph now or with the remaining ones gives the same sum
counted : (test : Start → Bool) (n : ℕ) (s : Start) (ss : List Start) → n + cond (test s) 1 0 + count_of test ss ≡ n + count_of test (s ∷ ss)
counted test n s ss = add_assoc n (cond (test s) 1 0) (count_of test ss)

module _ (styles : List ℕ) (style text-style : ℕ) (u : Rule) (records old : List ℕ) where
  pub writing_starts : text-style ≡ style_at styles style → Writing styles style text-style u records old old (record { placed = 0; clipped = 0 }) 0 0
  writing_starts t =
      record {
        style_read = t;
        reached = omega arith;
        same_length = refl;
        near = omega arith;
        few = omega arith;
        same_cells = refl;
        same_placed = omega arith;
        same_clipped = omega arith;
      }

  module _ (row : List ℕ) (counts : GlyphCounts) (column i : ℕ) (w : Writing styles style text-style u records old row counts column i) where
    pub writing_done : length records ≤ i → Wrote styles style (starts_of u 0 records) old row counts
    writing_done h =
        let none : drop i records ≡ [] = drop_of_length-le records h in
        record {
          cells = sym (changed-none row) ∙ (rw none at w.same_cells);
          is-placed = sym (add-zero counts.placed) ∙ (rw none at w.same_placed);
          is-clipped = sym (add-zero counts.clipped) ∙ (rw none at w.same_clipped);
        }

    module _ (h : i < length records) (width : ℕ) (e : width ≡ width_of u.ambiguous (get_or records i 0)) where
      abbrev here : Start
      here = start_of u.ambiguous i column (get_or records i 0)

      -- record i is skipped if over-wide, else it is the next glyph of the line
      skipped : u.limit < width → starts_left u records column i ≡ starts_left u records column (i + 1)
      unfolding is_over_wide
      skipped o =
          let t : ltb u.limit (width_of u.ambiguous (get_or records i 0)) ≡ true = lt-ltb u.limit (width_of u.ambiguous (get_or records i 0)) (omega arith) in
          rw (add-one i, drop-cons records i 0 h, t)

      kept : width ≤ u.limit → starts_left u records column i ≡ here ∷ starts_left u records (column + width) (i + 1)
      unfolding is_over_wide
      kept f =
          let t : ltb u.limit (width_of u.ambiguous (get_or records i 0)) ≡ false = le-ltb u.limit (width_of u.ambiguous (get_or records i 0)) (omega arith) in
          rw (e, add-one i, drop-cons records i 0 h, t)

      writing_skips : u.limit < width → Writing styles style text-style u records old row counts column (i + 1)
      writing_skips o =
          record {
            style_read = w.style_read;
            reached = omega arith;
            same_length = w.same_length;
            near = omega (arith, w.near);
            few = omega (arith, w.few);
            same_cells = rw (skipped o) at w.same_cells;
            same_placed = rw (skipped o) at w.same_placed;
            same_clipped = rw (skipped o) at w.same_clipped;
          }

      -- a turn on a glyph of the line writes it by its place, and counts it
      width_goes : width ≤ u.limit → width ≤ 6 → (next : List ℕ) (place : Place) → place ≡ place_of (length row) column width
          → next ≡ written_at styles text-style place column (get_or records i 0) row
          → Writing styles style text-style u records old next (with_place counts place) (column + width) (i + 1)
      unfolding is_placed is_clipped
      width_goes f small next place p q =
          let others : List Start = starts_left u records (column + width) (i + 1) in
          let at_edge : place ≡ place_of (length old) column (width_of u.ambiguous (get_or records i 0)) = rw (w.same_length, e) at p in
          let d : next ≡ changed (glyph_on styles style (length old) here) row
          = q ∙ rw (w.style_read, at_edge) (by_rule u.ambiguous styles style (length old) i column (get_or records i 0) row) in
          let both = place_counts counts place in
          record {
            style_read = w.style_read;
            reached = omega arith;
            same_length = rw d (length-changed _ row ∙ w.same_length);
            near = omega (arith, w.near, small);
            few = omega (arith, w.few, place_one counts place);
            same_cells = rw d (changed_then _ _ row) ∙ (rw (kept f) at w.same_cells);
            same_placed = rw (both.0, at_edge) (counted (is_placed (length old)) counts.placed here others ∙ (rw (kept f) at w.same_placed));
            same_clipped = rw (both.1, at_edge) (counted (is_clipped (length old)) counts.clipped here others ∙ (rw (kept f) at w.same_clipped));
          }

    -- what `fitting` answers of record i
    module _ (g : Option ℕ) (h : i < length records) (d : g ≡ fitting_of u (get_or records i 0)) where
      pub writing_over : g ≡ None → Writing styles style text-style u records old row counts column (i + 1)
      writing_over k = writing_skips h (width_of u.ambiguous (get_or records i 0)) refl (over-limit u (get_or records i 0) g d k)

      module _ (width : ℕ) (k : g ≡ Some width) where
        pub writing_fits : length records < 2 ^ 28 → column + width < 2 ^ 32
        writing_fits few = omega (arith, fits-most u (get_or records i 0) g d width k, w.near, w.reached)

        pub writing_sum : length records < 2 ^ 28 → Holds w64 (column + width)
        writing_sum few = record { fits = omega (arith, writing_fits few) }

        pub writing_goes : (next : List ℕ) (place : Place) (more : GlyphCounts) → place ≡ place_of (length row) column width
            → next ≡ written_at styles text-style place column (get_or records i 0) row
            → more ≡ with_place counts place → Writing styles style text-style u records old next more (column + width) (i + 1)
        writing_goes next place more p q m =
            rw m
            (width_goes h width (fits-read_as u (get_or records i 0) g d width k) (fits-limit u (get_or records i 0) g d width k)
            (fits-most u (get_or records i 0) g d width k) next place p q)

pub ruleset writing = (writing_starts, writing_done, writing_over, writing_goes)
