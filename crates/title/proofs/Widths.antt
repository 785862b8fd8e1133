-- The loop that adds up the width of a title line, saturating at each step.
use Prim.Native.Nat.{ℕ, ◌+◌, ◌≤◌, ◌<◌}
use mathlib.Core.Path.{◌≡◌, ◌∙◌}
use mathlib.Core.List.{List}
use native.Mathlib.Nat.{zero-add}
use native.Mathlib.Omega.{arith}
use lib.ListN.{length, get_or, drop}
use Rattle.num.specs.Held.{held}
use Rattle.text.specs.declared.AmbiguousWidth.{AmbiguousWidth}
use Rattle.text.specs.Record.{width_of}
use Rattle.text.specs.Line.{numbered, total}
use Rattle.title_glyphs.specs.TitleGlyphs.{glyphs_of_title}
use Rattle.title.specs.Title.{title_line_width}
use Rattle.title_glyphs.proofs.Numbered.{glyphs-from, glyphs-end}

-- saturating twice is saturating once
held_twice : (a b c : ℕ) → held (held (a + b) + c) ≡ held (a + (b + c))
held_twice a b c = omega arith

-- Before each turn: `width` plus the widths of the glyphs from `i` on, saturated, is the width of the line.
pub record AddingWidths (a : AmbiguousWidth) (records : List ℕ) (width i : ℕ) : Type 0 where
  pub reached : i ≤ length records
  pub small : width ≤ 65535
  pub remaining : held (width + total (numbered a i (drop i records))) ≡ title_line_width (glyphs_of_title a records)

module _ (a : AmbiguousWidth) (records : List ℕ) where
  pub adding_starts : AddingWidths a records 0 0
  unfolding title_line_width
  adding_starts = record { reached = omega arith; small = omega arith; remaining = rw zero-add }

  module _ (width i : ℕ) (d : AddingWidths a records width i) where
    -- a turn adds the width of glyph i
    pub adding_goes : (w next : ℕ) → i < length records → w ≡ width_of a (get_or records i 0) → next ≡ held (width + w) → AddingWidths a records next (i + 1)
    adding_goes w next h e p =
        record {
          reached = omega arith;
          small = omega (arith, p);
          remaining =
              rw (p, e) (held_twice width (width_of a (get_or records i 0)) (total (numbered a (i + 1) (drop (i + 1) records)))
              ∙ (rw (glyphs-from a records i h) at d.remaining));
        }

    pub adding_done : length records ≤ i → width ≡ title_line_width (glyphs_of_title a records)
    adding_done h =
        let e : held (width + 0) ≡ title_line_width (glyphs_of_title a records) = rw (glyphs-end a records i h) at d.remaining in
        omega (arith, e, d.small)

pub ruleset adding = (adding_starts, adding_goes, adding_done)
