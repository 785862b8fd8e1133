-- Laws on lists that the theorems share.
use mathlib.Core.Path.{◌≡◌, refl}
use mathlib.Core.Bool.{Bool, true, false, cond}
use mathlib.Core.List.{List, [], ◌∷◌, ◌++◌, append_assoc}
use Rattle.text.specs.Line.{Glyph}
use Rattle.nothing_lost.specs.Glyphs.{solids, glyphs_of_all}

pub glyphs-append : (a b : List (List Glyph)) → glyphs_of_all (a ++ b) ≡ glyphs_of_all a ++ glyphs_of_all b
glyphs-append [] b = refl
glyphs-append (line ∷ a) b = rw (glyphs-append a b, append_assoc)

pub solids-append : (a b : List Glyph) → solids (a ++ b) ≡ solids a ++ solids b
solids-append [] b = refl
solids-append (g ∷ a) b = go g.whitespace (solids-append a b)
  where
    go : (t : Bool) → solids (a ++ b) ≡ solids a ++ solids b →
        cond t (solids (a ++ b)) (g ∷ solids (a ++ b)) ≡ cond t (solids a) (g ∷ solids a) ++ solids b
    go true e = e
    go false e = rw e
