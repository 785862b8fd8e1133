-- Document 01, 'Wrapping': the limit, and whether lines are trimmed. Document 02, C-11: how ambiguous glyphs are read.
use Rattle.std.specs.Prelude.{ℕ, Bool}
use Rattle.text.specs.declared.AmbiguousWidth.{AmbiguousWidth}
use Rattle.wrapping.specs.declared.Rule.{Rule}

abbrev pub rule_of : AmbiguousWidth → ℕ → Bool → Rule
rule_of ambiguous limit trim = record { limit = limit; trim = trim; ambiguous = ambiguous }
