-- A property beyond the program's contract: its list is never too short.
use Prim.Native.Nat.{ℕ, ◌≤◌}
use mathlib.Core.Path.{◌≡◌}
use mathlib.Core.Bool.{false}
use mathlib.Core.List.{List}
use native.Mathlib.Omega.{arith}
use borrow.Author.Tests.{le-ltb}
use lib.ListN.{length}
use Rattle.text.specs.declared.Alignment.TheVariants.{Left}
use Rattle.refuse.specs.Causes.{list_too_short}
use Rattle.wrapping.specs.declared.Rule.{Rule}
use Rattle.line_composer.specs.declared.Method.TheVariants.{WordWrap}
use Rattle.line_composer.specs.Lines.{lines}
use Rattle.line_composer.proofs.Bounds.{lines-short}
use Rattle.listlines_input.specs.Input.{most_records}

-- a text has at most as many lines as records, so cause 9 never applies
pub long_enough : (u : Rule) (text : List ℕ) → length text ≤ most_records → list_too_short most_records (length (lines u WordWrap Left text)) ≡ false
long_enough u text h = le-ltb most_records (length (lines u WordWrap Left text)) (omega (arith, lines-short u Left text))
