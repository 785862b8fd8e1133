-- The titles that `Lines` gives.
use Prim.Native.Nat.{ℕ}
use mathlib.Core.Path.{◌≡◌, refl, ap, ◌∙◌}
use mathlib.Core.List.{List, [], ◌∷◌, map}
use Rattle.text.specs.declared.AmbiguousWidth.{AmbiguousWidth}
use Rattle.text.specs.Line.{TextLine, Opens, lines_from}
use Rattle.text.specs.LinesExtra.{parts, cut_lines}
use Rattle.text.proofs.CutLines.{cut_opening}
use Rattle.titles.specs.Titles.{Title, title_read, titles_from}
use Rattle.titles.specs.PlacingExtra.{title_of}

-- the titles of these lines
abbrev pub cut_titles : AmbiguousWidth → List (ℕ × List ℕ) → List Title
cut_titles a [] = []
cut_titles a (line ∷ lines) = title_of a line.0 line.1 ∷ cut_titles a lines

parts_read : (a : AmbiguousWidth) (lines : List TextLine) → cut_titles a (map parts lines) ≡ map (title_read a) lines
parts_read a [] = refl
parts_read a (line ∷ lines) = ap (λ (ts : List Title). title_read a line ∷ ts) (parts_read a lines)

-- records that open with a head are cut into their titles
pub cut_read : (a : AmbiguousWidth) (titles : List ℕ) → Opens titles → cut_titles a (cut_lines titles) ≡ titles_from a titles
cut_read a titles o = ap (cut_titles a) (cut_opening 0 titles o) ∙ parts_read a (lines_from 0 titles)
