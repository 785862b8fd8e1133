-- Document 01, 'Wrapping' and 'After the pages': how the lines of a text are composed, wrapped or truncated.
-- Document 02, C-11: how its ambiguous glyphs are read.
use Rattle.std.specs.Prelude.{ℕ, false}
use Rattle.text.specs.declared.AmbiguousWidth.{AmbiguousWidth}
use Rattle.wrapping.specs.declared.Rule.{Rule}
use Rattle.wrapping.specs.Rule.{rule_of}
use Rattle.line_composer.specs.declared.Method.{Method}
use Rattle.line_composer.specs.declared.Method.TheVariants.{WordWrap, Truncate}
use Rattle.line_composer.specs.declared.Wrap.{Wrap}
use Rattle.line_composer.specs.declared.Wrap.TheVariants.{Off, On}

abbrev pub method_of : Wrap → Method
method_of (On trim) = WordWrap
method_of (Off column) = Truncate column

-- truncation never trims
abbrev pub rule_at : AmbiguousWidth → Wrap → ℕ → Rule
rule_at ambiguous (On trim) limit = rule_of ambiguous limit trim
rule_at ambiguous (Off column) limit = rule_of ambiguous limit false
