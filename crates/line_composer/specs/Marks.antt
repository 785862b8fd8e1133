-- Document 02, C-17: the composed lines of a text, each with its mark.
use Rattle.std.specs.Prelude.{ℕ, Bool, true, false, List, [], ◌∷◌, ◌++◌}
use Rattle.text.specs.declared.Alignment.{Alignment}
use Rattle.text.specs.Line.{TextLine, lines_from}
use Rattle.wrapping.specs.declared.Rule.{Rule}
use Rattle.line_composer.specs.declared.Method.{Method}
use Rattle.line_composer.specs.Lines.{Line, line_lines}

-- a composed line and its mark
pub record MarkedLine : Type 0 where
  pub line : Line
  pub mark : Bool

abbrev pub with_mark : Line → Bool → MarkedLine
with_mark line mark = record { line = line; mark = mark }

-- "a mark: 1 on the last composed line of each text line, 0 on others": on the composed lines of one text line
abbrev pub marked : List Line → List MarkedLine
marked [] = []
marked (line ∷ []) = with_mark line true ∷ []
marked (line ∷ next ∷ rest) = with_mark line false ∷ marked (next ∷ rest)

-- on those of a list of text lines
abbrev pub all_marked : Rule → Method → Alignment → List TextLine → List MarkedLine
all_marked u method default [] = []
all_marked u method default (line ∷ rest) = marked (line_lines u method default line) ++ all_marked u method default rest

-- on those of a text
unfoldable pub marked_lines : Rule → Method → Alignment → List ℕ → List MarkedLine
marked_lines u method default text = all_marked u method default (lines_from 0 text)
