-- Lines of one-cell glyphs that are no wider than a width.
use Prim.Native.Nat.{ℕ, ◌≤◌}
use mathlib.Core.List.{List, [], ◌∷◌}
use Rattle.text.specs.Line.{total}
use Rattle.line_composer.specs.Lines.{Line}
use Rattle.pages.specs.Reading.{OneCell}

abbrev pub Fit : ℕ → List Line → Type 0
Fit width [] = Unit {0}
Fit width (line ∷ rest) = (OneCell line.glyphs × (total line.glyphs ≤ width)) × Fit width rest
