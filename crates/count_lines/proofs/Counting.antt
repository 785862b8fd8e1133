-- Laws of the loop of `count_lines`.
use Prim.Native.Nat.{ℕ, ◌+◌, ◌<◌}
use mathlib.Core.Path.{◌≡◌, ap}
use mathlib.Core.List.{List}
use native.Mathlib.Omega.{arith}
use mir.Val.{Fits}
use mir.Syntax.{w64}
use lib.ListN.{length}
use Rattle.std.specs.Prelude.{Some, None}
use Rattle.text.specs.declared.Alignment.{Alignment}
use Rattle.text.specs.Line.{FewRecords}
use Rattle.wrapping.specs.declared.Rule.{Rule}
use Rattle.line_composer.specs.declared.WrappedLine.{WrappedLine}
use Rattle.line_composer.specs.declared.LineComposer.{LineComposer}
use Rattle.line_composer.specs.declared.Method.TheVariants.{WordWrap}
use Rattle.line_composer.specs.Lines.{lines}
use Rattle.line_composer.specs.ComposingExtra.{remaining_lines, Ready, Started, PulledLine}
use Rattle.line_composer.proofs.Bounds.{lines-short}

-- Loop invariant: before each turn, n lines are counted, and the composer's remaining lines are the others.
pub record Counting (u : Rule) (default : Alignment) (text : List ℕ) (c : LineComposer) (n : ℕ) : Type 0 where
  pub ready : Ready u text c
  pub counted : n + length (remaining_lines u default text c) ≡ length (lines u WordWrap default text)

pub counting_starts : (u : Rule) (default : Alignment) (text : List ℕ) (c : LineComposer) → Started u WordWrap text c → Counting u default text c 0
counting_starts u default text c s = record { ready = s.ready; counted = omega (arith, ap length (s.lines_left default)) }

module _ (u : Rule) (default : Alignment) (text : List ℕ) (c d : LineComposer) (n : ℕ) (k : Counting u default text c n) where
  module _ (line : WrappedLine) (p : PulledLine u default text c (Some line) d) where
    one_fewer : length (remaining_lines u default text c) ≡ 1 + length (remaining_lines u default text d)
    one_fewer = omega (arith, ap length p.pulled-lines)

    pub counting_goes : Counting u default text d (n + 1)
    counting_goes = record { ready = p.ready.0; counted = omega (arith, k.counted, one_fewer) }

    pub counting_less : length (remaining_lines u default text d) < length (remaining_lines u default text c)
    counting_less = omega (arith, one_fewer)

    pub counting_fits : FewRecords text → Fits w64 (n + 1)
    counting_fits h = record { fits = omega (arith, k.counted, one_fewer, lines-short u default text) }

  pub counting_done : PulledLine u default text c None d → n ≡ length (lines u WordWrap default text)
  counting_done p = omega (arith, k.counted, ap length p.pulled-lines)
