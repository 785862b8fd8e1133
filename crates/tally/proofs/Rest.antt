-- The dropped glyphs are the remainder: one law for each path through `text_counts`, and one for each of its subtractions.
use Prim.Native.Nat.{ℕ, ◌+◌, ◌-◌, ◌≤◌}
use mathlib.Core.Path.{◌≡◌}
use mathlib.Core.List.{List}
use native.Mathlib.Omega.{arith}
use borrow.Author.Tests.{eq-eqb, ne_eqb}
use lib.ListN.{length}
use Rattle.text.specs.Line.{Opens}
use Rattle.wrapping.specs.declared.Rule.{Rule}
use Rattle.line_composer.specs.Lines.{dropped}
use Rattle.tally_lines.specs.declared.LineCounts.{LineCounts}
use Rattle.tally_lines.specs.TallyingExtra.{line_counts}
use Rattle.tally.specs.declared.TextGlyphCounts.{TextGlyphCounts}
use Rattle.tally.specs.Tally.{no_counts, composed, tally_of}
use Rattle.tally.specs.TallyingExtra.{glyph_counts}
use Rattle.tally.proofs.EveryGlyph.{skipped-glyphs, counts}

module _ (u : Rule) (text : List ℕ) where
  -- "all 0 at limit 0"
  pub limit-none : u.limit ≡ 0 → no_counts ≡ tally_of u text
  unfolding tally_of
  limit-none e = simp (eq-eqb u.limit 0 e)

  module _ (n : u.limit ≡ 0 → ⊥) (o : Opens text) (l : LineCounts) (g : TextGlyphCounts)
      (e : l ≡ line_counts u.limit (composed u text)) (f : g ≡ glyph_counts u text) where
    -- placed, clipped, zero-width, over-wide and dropped glyphs are all glyphs
    parts : l.placed + l.clipped + l.zero_width + g.over_wide + length (dropped u text) ≡ g.glyphs
    unfolding tally_of line_counts glyph_counts
    parts = rw (e, f, skipped-glyphs u text o) (rw (ne_eqb u.limit 0 n) at (counts u text o (omega arith)))

    pub over-wide-part : g.over_wide ≤ g.glyphs
    over-wide-part = omega (arith, parts)

    pub placed-part : l.placed ≤ g.glyphs - g.over_wide
    placed-part = omega (arith, parts)

    pub clipped-part : l.clipped ≤ g.glyphs - g.over_wide - l.placed
    clipped-part = omega (arith, parts)

    pub zero_width-part : l.zero_width ≤ g.glyphs - g.over_wide - l.placed - l.clipped
    zero_width-part = omega (arith, parts)

    pub all-parts :
        record {
          lines = l.lines;
          placed = l.placed;
          clipped = l.clipped;
          zero_width = l.zero_width;
          over_wide = g.over_wide;
          dropped = g.glyphs - g.over_wide - l.placed - l.clipped - l.zero_width;
        }
        ≡ tally_of u text
    unfolding tally_of line_counts glyph_counts
    all-parts =
        let d : g.glyphs - g.over_wide - l.placed - l.clipped - l.zero_width ≡ length (dropped u text) = omega (arith, parts) in
        rw (d, e, f, skipped-glyphs u text o, ne_eqb u.limit 0 n)

pub ruleset rest = (limit-none, over-wide-part, placed-part, clipped-part, zero_width-part, all-parts)
