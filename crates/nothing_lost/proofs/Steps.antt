-- The glyphs emitted at a text line's end, and wrapping at a limit above 0.
use Prim.Native.Nat.{◌<◌}
use mathlib.Core.Path.{◌≡◌, refl}
use mathlib.Core.Bool.{Bool, true, false, cond, not, ◌&&◌}
use mathlib.Core.List.{List, [], ◌∷◌, ◌++◌, append-nil}
use native.Mathlib.Omega.{arith}
use borrow.Author.Tests.{ne_eqb}
use Rattle.text.specs.Line.{Glyph}
use Rattle.wrapping.specs.declared.Rule.{Rule}
use Rattle.wrapping.specs.Wrapping.{Pending, empty, empty_pending, gathered, last_lines, at_least_one, wrap_from, wrap}
use Rattle.nothing_lost.specs.Glyphs.{glyphs_of_all}

-- the text line's end emits the glyphs that a join gathers
pub last-gathers : (u : Rule) (s : Pending) → glyphs_of_all (last_lines u s) ≡ gathered u s
unfolding last_lines
last-gathers u s = last (empty s.row && empty s.word && not (empty s.spaces) && u.trim) (gathered u s)
  where
    last : (b : Bool) (line : List Glyph) → glyphs_of_all (cond b ([] ∷ []) [] ++ cond (empty line) [] (line ∷ [])) ≡ line
    last true [] = refl
    last false [] = refl
    last true (g ∷ line) = append-nil (g ∷ line)
    last false (g ∷ line) = append-nil (g ∷ line)

-- the added empty line has no glyph
pub at-least-one-glyphs : (lines : List (List Glyph)) → glyphs_of_all (at_least_one lines) ≡ glyphs_of_all lines
at-least-one-glyphs [] = refl
at-least-one-glyphs (line ∷ lines) = refl

-- at a limit above 0 a text line is wrapped from the empty state
pub wrap-from-empty : (u : Rule) (gs : List Glyph) → 0 < u.limit →
    let all = wrap_from u empty_pending gs in
    wrap u gs ≡ record { lines = at_least_one all.lines; dropped = all.dropped }
unfolding wrap
wrap-from-empty u gs h = rw (ne_eqb u.limit 0 (λ (e : u.limit ≡ 0). omega arith))
