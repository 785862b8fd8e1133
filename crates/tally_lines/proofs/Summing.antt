-- The loop of `line_counts`: lines pulled one by one and their counts summed.
use Prim.Native.Nat.{ℕ, ◌+◌, ◌^◌, ◌≤◌, ◌<◌}
use mathlib.Core.Path.{◌≡◌, sym, ap, ◌∙◌}
use mathlib.Core.List.{List, [], ◌∷◌}
use native.Mathlib.Omega.{arith}
use lib.ListN.{length}
use Rattle.std.specs.Prelude.{Some, None}
use Rattle.text.specs.declared.Alignment.{Alignment}
use Rattle.wrapping.specs.declared.Rule.{Rule}
use Rattle.line_composer.specs.declared.WrappedLine.{WrappedLine}
use Rattle.line_composer.specs.declared.LineComposer.{LineComposer}
use Rattle.line_composer.specs.declared.Method.TheVariants.{WordWrap}
use Rattle.line_composer.specs.Lines.{lines, line_at}
use Rattle.line_composer.specs.ComposingExtra.{remaining_lines, Started, ReadsBack, PulledLine}
use Rattle.line_composer.specs.Places.{starts}
use Rattle.line_composer.proofs.Bounds.{lines-short}
use Rattle.count_lines.proofs.Counting.{Counting, counting_starts, counting_goes, counting_less}
use Rattle.tally_lines.specs.declared.LineCounts.{LineCounts}
use Rattle.tally_lines.specs.TallyingExtra.{empty_lines, sum, line_counts}
use Rattle.tally_lines.proofs.Ways.{all_counted}
use Rattle.tally_lines.proofs.Sums.{sum-none, none-sum, sum_assoc, first-line}
use Rattle.tally_lines.proofs.Emitted.{text-emits}

-- a text has no more lines than records, and its lines have no more glyphs
Few : List ℕ → LineCounts → Type 0
Few text c = (c.lines ≤ length text) × (c.placed + c.clipped + c.zero_width ≤ length text)

few : (u : Rule) (default : Alignment) (text : List ℕ) → Few text (line_counts u.limit (lines u WordWrap default text))
unfolding Few line_counts
few u default text =
    (lines-short u default text, omega (arith, all_counted u.limit (starts (lines u WordWrap default text)), text-emits u default text))

-- Invariant of `line_counts`: the text is short enough, and the counts of the lines pulled plus those of the remaining lines are
-- those of all lines.
pub record Summing (u : Rule) (default : Alignment) (text : List ℕ) (c : LineComposer) (counts : LineCounts) : Type 0 where
  pub short : length text < 2 ^ 28
  pub counting_on : Counting u default text c counts.lines
  pub same : sum counts (line_counts u.limit (remaining_lines u default text c)) ≡ line_counts u.limit (lines u WordWrap default text)

pub summing_starts : (u : Rule) (default : Alignment) (text : List ℕ) (c : LineComposer) (counts : LineCounts) → length text < 2 ^ 28 → Started u WordWrap text c → counts ≡ empty_lines 0 → Summing u default text c counts
summing_starts u default text c counts h s e =
    rw e
    (record {
      short = h;
      counting_on = counting_starts u default text c s;
      same = none-sum (line_counts u.limit (remaining_lines u default text c)) ∙ ap (line_counts u.limit) (s.lines_left default);
    })

module _ (u : Rule) (default : Alignment) (text : List ℕ) (c d : LineComposer) (counts : LineCounts) (s : Summing u default text c counts) where
  module _ (line : WrappedLine) (p : PulledLine u default text c (Some line) d) where
    reads_back : ReadsBack u text line
    reads_back = p.ready.1

    -- the line's records are within the text
    pub line-ordered : line.first ≤ line.end
    line-ordered = reads_back.ordered

    pub line-within : line.end ≤ length text
    line-within = reads_back.within

    pub summing_less : length (remaining_lines u default text d) < length (remaining_lines u default text c)
    summing_less = counting_less u default text c d counts.lines s.counting_on line p

    module _ (one : LineCounts) (f : one ≡ line_counts u.limit (line_at u text line ∷ [])) where
      -- the sum so far, the line's counts and those of the remaining lines are those of all lines
      parts : sum counts (sum one (line_counts u.limit (remaining_lines u default text d))) ≡ line_counts u.limit (lines u WordWrap default text)
      parts =
          ap (sum counts)
          (rw f (sym (first-line u.limit (line_at u text line) (remaining_lines u default text d)) ∙ ap (line_counts u.limit) (sym p.pulled-lines)))
          ∙ s.same

      fits : (counts.lines + one.lines < 2 ^ 28)
          × (counts.placed + one.placed + (counts.clipped + one.clipped) + (counts.zero_width + one.zero_width) < 2 ^ 28)
      unfolding sum Few
      fits = let n = rw (← parts) at (few u default text) in (omega (arith, s.short), omega (arith, s.short))

      pub lines_fit : counts.lines + one.lines < 2 ^ 32
      lines_fit = omega (arith, fits)

      pub placed_fit : counts.placed + one.placed < 2 ^ 32
      placed_fit = omega (arith, fits)

      pub clipped_fit : counts.clipped + one.clipped < 2 ^ 32
      clipped_fit = omega (arith, fits)

      pub zero_width_fit : counts.zero_width + one.zero_width < 2 ^ 32
      zero_width_fit = omega (arith, fits)

      pub summing_goes : (next : LineCounts) → next ≡ sum counts one → Summing u default text d next
      unfolding sum line_counts
      summing_goes next g =
          let n : (sum counts one).lines ≡ counts.lines + 1 = rw f in
          rw g
          (record {
            short = s.short;
            counting_on = rw n (counting_goes u default text c d counts.lines s.counting_on line p);
            same = sum_assoc counts one (line_counts u.limit (remaining_lines u default text d)) ∙ parts;
          })

  pub summing_done : PulledLine u default text c None d → counts ≡ line_counts u.limit (lines u WordWrap default text)
  unfolding line_counts
  summing_done p =
      let z : remaining_lines u default text c ≡ [] = p.pulled-lines in
      sym (sum-none counts) ∙ rw z at s.same

pub ruleset summing = (summing_starts, line-ordered, line-within, summing_less, lines_fit, placed_fit, clipped_fit, zero_width_fit, summing_goes, summing_done)
