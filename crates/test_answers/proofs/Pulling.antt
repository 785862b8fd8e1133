-- The checksum of the truncated lines so far, extended by the remaining lines, is the checksum of all.
use Prim.Native.Nat.{ℕ, ◌+◌, ◌^◌, ◌<◌}
use mathlib.Core.Path.{◌≡◌, ap, ◌∙◌}
use mathlib.Core.List.{List, [], ◌∷◌}
use native.Mathlib.Omega.{arith}
use mir.Val.{Fits}
use mir.Syntax.{w32}
use lib.ListN.{length}
use lib.Seq.{slice, length-slice}
use Rattle.std.specs.Prelude.{Some, None}
use Rattle.text.specs.declared.Alignment.{Alignment}
use Rattle.wrapping.specs.declared.Rule.{Rule}
use Rattle.wrapping.proofs.ListRuns.{total_bound}
use Rattle.line_composer.specs.declared.WrappedLine.{WrappedLine}
use Rattle.line_composer.specs.declared.LineComposer.{LineComposer}
use Rattle.line_composer.specs.declared.Method.TheVariants.{Truncate}
use Rattle.line_composer.specs.Lines.{lines, wrapped_line_of, line_at}
use Rattle.line_composer.specs.ComposingExtra.{remaining_lines, Ready, Started, ReadsBack, PulledLine}
use Rattle.test_sums.specs.SumsExtra.{with_number}
use Rattle.test_answers.specs.TextsExtra.{with_line, with_lines, lines_sum}
use Rattle.test_answers.proofs.Few.{no_more_lines_than_records}

-- before each turn: `count` lines are in the checksum, and the composer has the remaining ones
pub record Pulling (u : Rule) (column : ℕ) (default : Alignment) (text : List ℕ) (c : LineComposer) (sum count : ℕ) : Type 0 where
  pub ready : Ready u text c
  pub counted : count + length (remaining_lines u default text c) ≡ length (lines u (Truncate column) default text)
  pub same : with_lines sum (remaining_lines u default text c) ≡ with_lines 0 (lines u (Truncate column) default text)

module _ (u : Rule) (column : ℕ) (default : Alignment) (text : List ℕ) (c d : LineComposer) where
  pub pulling_starts : Started u (Truncate column) text c → Pulling u column default text c 0 0
  pulling_starts s =
      record {
        ready = s.ready;
        counted = omega (arith, ap length (s.lines_left default));
        same = ap (with_lines 0) (s.lines_left default);
      }

  module _ (sum count : ℕ) (k : Pulling u column default text c sum count) where
    module _ (line : WrappedLine) (p : PulledLine u default text c (Some line) d) where
      reads_back : ReadsBack u text line
      reads_back = p.ready.1

      pub first_fits : length text < 2 ^ 28 → line.first < 2 ^ 32
      first_fits h = omega (arith, reads_back.ordered, reads_back.within)

      pub end_fits : length text < 2 ^ 28 → line.end < 2 ^ 32
      end_fits h = omega (arith, reads_back.within)

      pub width_fits : length text < 2 ^ 28 → line.width < 2 ^ 32
      unfolding line_at wrapped_line_of
      width_fits h =
          omega (
            arith,
            ap (λ (x : WrappedLine). x.width) reads_back.is,
            total_bound u line.first (slice line.first line.end text),
            length-slice line.first line.end text reads_back.within,
            reads_back.within,
          )

      pub count_fits : length text < 2 ^ 28 → Fits w32 (count + 1)
      count_fits h = record { fits = omega (arith, k.counted, ap length p.pulled-lines, no_more_lines_than_records u column default text) }

      pub pulling_less : length (remaining_lines u default text d) < length (remaining_lines u default text c)
      pulling_less = omega (arith, ap length p.pulled-lines)

      pub pulling_goes : (next : ℕ) → next ≡ with_line sum line → Pulling u column default text d next (count + 1)
      pulling_goes next f =
          let next-is : next ≡ with_line sum (wrapped_line_of (line_at u text line)) = f ∙ ap (with_line sum) reads_back.is in
          record {
            ready = p.ready.0;
            counted = omega (arith, k.counted, ap length p.pulled-lines);
            same = rw next-is (rw p.pulled-lines at k.same);
          }

    pub pulling_ends : (r : ℕ) → PulledLine u default text c None d → r ≡ with_number sum count → r ≡ lines_sum (lines u (Truncate column) default text)
    unfolding lines_sum
    pulling_ends r p f =
        let z : remaining_lines u default text c ≡ [] = p.pulled-lines in
        let same : sum ≡ with_lines 0 (lines u (Truncate column) default text) = rw z at k.same in
        let counted : count ≡ length (lines u (Truncate column) default text) = omega (arith, k.counted, ap length z) in
        cc

pub ruleset pulling = (pulling_starts, first_fits, end_fits, width_fits, count_fits, pulling_less, pulling_goes, pulling_ends)
