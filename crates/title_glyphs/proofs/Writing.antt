-- The loop that writes the glyphs of a title line.
use Prim.Native.Nat.{ℕ, ◌+◌, ◌≤◌, ◌<◌}
use mathlib.Core.Path.{◌≡◌, refl, sym, ap, ◌∙◌}
use mathlib.Core.Bool.{cond}
use mathlib.Core.List.{List, [], ◌∷◌}
use native.Mathlib.Omega.{arith}
use borrow.Author.Tests.{lt-ltb, le-ltb}
use lib.Dec.{ltb}
use lib.ListN.{length, get_or, drop}
use Rattle.text.specs.declared.AmbiguousWidth.{AmbiguousWidth}
use Rattle.text.specs.Record.{width_of}
use Rattle.text.specs.Line.{Start, numbered, starts_from}
use Rattle.buffer.specs.Drawing.{changed}
use Rattle.buffer.proofs.Changed.{length-changed, changed-same, changed-none, changed_then}
use Rattle.title_glyphs.specs.TitleGlyphs.{glyphs_of_title, until_overrun, title_glyph_on, title_glyphs_on}
use Rattle.title_glyphs.proofs.Numbered.{glyphs-from, glyphs-end}
use Rattle.title_glyphs.proofs.OneGlyph.{start_of, number_unread}

-- the glyphs from number i on, starting at `column`, up to the first that overruns `end`
abbrev pub fitting : AmbiguousWidth → ℕ → ℕ → ℕ → List ℕ → List Start
fitting a end column i records = until_overrun end (starts_from column (numbered a i (drop i records)))

-- Before each turn: writing the glyphs from number `i` on, starting at `column`, completes the writing of all on the old row.
pub record Writing (a : AmbiguousWidth) (styles : List ℕ) (hidden : ℕ) (records old row : List ℕ) (column i : ℕ) : Type 0 where
  pub reached : i ≤ length records
  pub same_length : length row ≡ length old
  pub room : column ≤ hidden + length old
  pub remaining : changed (title_glyphs_on styles hidden (fitting a (hidden + length old) column i records)) row
      ≡ changed (title_glyphs_on styles hidden (until_overrun (hidden + length old) (starts_from 0 (glyphs_of_title a records)))) old

module _ (a : AmbiguousWidth) (styles : List ℕ) (hidden : ℕ) (records old : List ℕ) where
  pub writing_starts : Writing a styles hidden records old old 0 0
  writing_starts = record { reached = omega arith; same_length = refl; room = omega arith; remaining = refl }

  module _ (row : List ℕ) (column i : ℕ) (r : Writing a styles hidden records old row column i) where
    abbrev end : ℕ
    end = hidden + length old

    abbrev Done : Type 0
    Done = row ≡ changed (title_glyphs_on styles hidden (until_overrun end (starts_from 0 (glyphs_of_title a records)))) old

    none_left : fitting a end column i records ≡ [] → Done
    none_left e = sym (changed-none row) ∙ (rw e at r.remaining)

    pub writing_done : length records ≤ i → Done
    writing_done h = none_left (ap (λ gs. until_overrun end (starts_from column gs)) (glyphs-end a records i h))

    module _ (h : i < length records) (width : ℕ) (e : width ≡ width_of a (get_or records i 0)) where
      -- glyph i, unless it overruns the end, and the glyphs after it
      next_fitting : fitting a end column i records
          ≡ cond (ltb end (column + width)) [] (start_of a i column (get_or records i 0) ∷ fitting a end (column + width) (i + 1) records)
      next_fitting = rw (e, glyphs-from a records i h)

      -- writing stops at a glyph that overruns the end
      pub writing_stops : end < column + width → Done
      writing_stops over = none_left (next_fitting ∙ rw (lt-ltb end (column + width) over))

      -- a turn writes glyph i
      pub writing_goes : (next : List ℕ) → column + width ≤ end → next ≡ changed (title_glyph_on styles hidden (start_of a 0 column (get_or records i 0))) row
          → Writing a styles hidden records old next (column + width) (i + 1)
      writing_goes next fits p =
          let others : List Start = fitting a end (column + width) (i + 1) records in
          let more : fitting a end column i records ≡ start_of a i column (get_or records i 0) ∷ others =
          next_fitting ∙ rw (le-ltb end (column + width) fits) in
          record {
            reached = omega arith;
            same_length = rw p (length-changed _ row ∙ r.same_length);
            room = fits;
            remaining =
                rw p (changed_then _ _ row)
                ∙ changed-same _ _ row
                (λ j cell _. ap (title_glyphs_on styles hidden others j) (sym (number_unread a styles hidden i column (get_or records i 0) j cell)))
                ∙ (rw more at r.remaining);
          }

pub ruleset writing = (writing_starts, writing_done, writing_stops, writing_goes)
