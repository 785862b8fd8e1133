-- Not in the papers: the lines as `Lines` gives them, each as its head and its records.
use Rattle.std.specs.Prelude.{ℕ, List, [], ◌∷◌, map}
use Rattle.std.specs.Borrow.{Bor}
use Rattle.text.specs.declared.line.Lines.{Lines}
use Rattle.text.specs.Line.{TextLine, until_head, lines_from}

abbrev pub parts : TextLine → ℕ × List ℕ
parts line = (line.head, line.records)

-- The lines of records. The first record opens the first line, also where it isn't a head.
abbrev pub cut_lines : List ℕ → List (ℕ × List ℕ)
cut_lines [] = []
cut_lines (r ∷ rs) = (r, until_head rs) ∷ map parts (lines_from 0 rs)

abbrev pub lines_left : Lines → List (ℕ × List ℕ)
lines_left lines = cut_lines lines.rest.now

abbrev pub head_and_records : ℕ × Bor (List ℕ) → ℕ × List ℕ
head_and_records line = (line.0, line.1.now)
