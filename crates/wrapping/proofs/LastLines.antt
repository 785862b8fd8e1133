-- The lines emitted at a text line's end, by cases on what is gathered there.
use mathlib.Core.Path.{◌≡◌, refl}
use mathlib.Core.Bool.{Bool, true, false, cond, not, ◌&&◌, ◌||◌}
use mathlib.Core.List.{List, [], ◌∷◌, ◌++◌}
use Rattle.text.specs.Line.{Glyph}
use Rattle.wrapping.specs.declared.Rule.{Rule}
use Rattle.wrapping.specs.Wrapping.{Pending, empty, takes_spaces, gathered, last_lines}

pub last-lines-gathered : (u : Rule) (t : Pending) → last_lines u t ≡ cond (empty (gathered u t)) (cond (empty t.spaces) [] ([] ∷ [])) (gathered u t ∷ [])
unfolding last_lines gathered takes_spaces
last-lines-gathered u t = cases u.trim t.row t.spaces t.word
  where
    cases : (trim : Bool) (row spaces word : List Glyph) →
        let l = (row ++ cond (not (empty row) || not trim) spaces []) ++ word in
        cond (empty row && empty word && not (empty spaces) && trim) ([] ∷ []) [] ++ cond (empty l) [] (l ∷ [])
        ≡ cond (empty l) (cond (empty spaces) [] ([] ∷ [])) (l ∷ [])
    cases trim (g ∷ row) spaces word = refl
    cases true [] [] [] = refl
    cases true [] (p ∷ spaces) [] = refl
    cases true [] spaces (w ∷ word) = refl
    cases false [] [] [] = refl
    cases false [] (p ∷ spaces) [] = refl
    cases false [] [] (w ∷ word) = refl
    cases false [] (p ∷ spaces) (w ∷ word) = refl
