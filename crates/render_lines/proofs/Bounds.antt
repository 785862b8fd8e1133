-- The lines of a text have no more glyphs than it has records, so the counts fit.
use Prim.Native.Nat.{ℕ, zero, suc, ◌+◌, ◌-◌, ◌≤◌}
use mathlib.Core.Path.{◌≡◌, refl, ap}
use mathlib.Core.List.{List, [], ◌∷◌, ◌++◌, map}
use native.Mathlib.Omega.{arith}
use lib.Dec.{eqb}
use lib.ListN.{length, take, drop, length-append}
use Rattle.text.specs.declared.Alignment.{Alignment}
use Rattle.text.specs.Record.{alignment_of}
use Rattle.text.specs.Alignment.{resolved}
use Rattle.text.specs.Line.{Glyph, TextLine, lines_from, glyphs_of}
use Rattle.text.proofs.Lists.{count-few}
use Rattle.text.proofs.LineGlyphs.{line_glyphs, split-glyphs, glyphs-short, starts-length}
use Rattle.wrapping.specs.declared.Rule.{Rule}
use Rattle.wrapping.specs.Wrapping.{is_over_wide}
use Rattle.text.proofs.Bools.{cond_cases}
use Rattle.nothing_lost.specs.Glyphs.{glyphs_of_all}
use Rattle.nothing_lost.proofs.Accounted.{wrapped-few}
use Rattle.line_truncator.specs.Truncation.{offset_of, ends, swallows, shown_from, truncate}
use Rattle.line_composer.specs.declared.Method.{Method}
use Rattle.line_composer.specs.declared.Method.TheVariants.{WordWrap, Truncate}
use Rattle.line_composer.specs.Lines.{Line, aligned, lines_of, line_lines, all_lines, lines}
use Rattle.line_composer.specs.Places.{is_placed, is_clipped}
use Rattle.render_line.specs.RenderLine.{drawn_starts, placed_in, clipped_in}
use Rattle.render_lines.specs.Rows.{sum_of}

-- number of glyphs of a line
abbrev pub glyphs_in : Line → ℕ
glyphs_in line = length line.glyphs

pub sum-append : (f : Line → ℕ) (a b : List Line) → sum_of f (a ++ b) ≡ sum_of f a + sum_of f b
sum-append f [] b = omega arith
sum-append f (line ∷ a) b = omega (arith, sum-append f a b)

pub sum-take : (f : Line → ℕ) (n : ℕ) (ls : List Line) → sum_of f (take n ls) ≤ sum_of f ls
sum-take f zero ls = omega arith
sum-take f (suc n) [] = omega arith
sum-take f (suc n) (line ∷ ls) = omega (arith, sum-take f n ls)

pub sum_drop : (f : Line → ℕ) (n : ℕ) (ls : List Line) → sum_of f (drop n ls) ≤ sum_of f ls
sum_drop f zero ls = omega arith
sum_drop f (suc n) [] = omega arith
sum_drop f (suc n) (line ∷ ls) = omega (arith, sum_drop f n ls)

sum_less : (f g : Line → ℕ) (ls : List Line) → ((line : Line) → f line ≤ g line) → sum_of f ls ≤ sum_of g ls
sum_less f g [] h = omega arith
sum_less f g (line ∷ ls) h = omega (arith, h line, sum_less f g ls h)

drawn-length : (area : ℕ) (line : Line) → length (drawn_starts area line) ≡ glyphs_in line
unfolding drawn_starts
drawn-length area line = starts-length _ line.glyphs

pub placed-few : (area : ℕ) (line : Line) → placed_in area line ≤ glyphs_in line
unfolding placed_in
placed-few area line = omega (arith, count-few (is_placed area) (drawn_starts area line), drawn-length area line)

pub clipped-few : (area : ℕ) (line : Line) → clipped_in area line ≤ glyphs_in line
unfolding clipped_in
clipped-few area line = omega (arith, count-few (is_clipped area) (drawn_starts area line), drawn-length area line)

-- truncation, like wrapping, emits no more glyphs than the text line has
shown-few : (u : Rule) (offset shown : ℕ) (gs : List Glyph) → length (shown_from u offset shown gs) ≤ length gs
shown-few u offset shown [] = omega arith
shown-few u offset shown (g ∷ gs) =
    cond_cases (λ (l : List Glyph). length l ≤ suc (length gs)) (is_over_wide u g) _ _
    (λ _. omega (arith, shown-few u offset shown gs))
    (λ _.
    cond_cases (λ (l : List Glyph). length l ≤ suc (length gs)) (ends u shown g) _ _
    (λ _. omega arith)
    (λ _.
    cond_cases (λ (l : List Glyph). length l ≤ suc (length gs)) (swallows offset g) _ _
    (λ _. omega (arith, shown-few u (offset - g.width) shown gs))
    (λ _. omega (arith, shown-few u 0 (shown + g.width) gs))))

truncated_few : (u : Rule) (column : ℕ) (alignment : Alignment) (gs : List Glyph) → length (glyphs_of_all (truncate u column alignment gs)) ≤ length gs
unfolding truncate
truncated_few u column alignment gs =
    cond_cases (λ (ls : List (List Glyph)). length (glyphs_of_all ls) ≤ length gs) (eqb u.limit 0) _ _
    (λ _. omega arith)
    (λ _. omega (arith, shown-few u (offset_of column alignment) 0 gs, length-append (shown_from u (offset_of column alignment) 0 gs) []))

lines_of_few : (u : Rule) (method : Method) (alignment : Alignment) (gs : List Glyph) → length (glyphs_of_all (lines_of u method alignment gs)) ≤ length gs
unfolding lines_of
lines_of_few u WordWrap alignment gs = wrapped-few u gs
lines_of_few u (Truncate column) alignment gs = truncated_few u column alignment gs

sum-aligned : (a : Alignment) (ls : List (List Glyph)) → sum_of glyphs_in (map (aligned a) ls) ≡ length (glyphs_of_all ls)
sum-aligned a [] = refl
sum-aligned a (gs ∷ ls) = omega (arith, sum-aligned a ls, length-append gs (glyphs_of_all ls))

line-few : (u : Rule) (method : Method) (default : Alignment) (line : TextLine) → sum_of glyphs_in (line_lines u method default line) ≤ length (glyphs_of u.ambiguous line)
unfolding line_lines
line-few u method default line =
    let a : Alignment = resolved (alignment_of line.head) default in
    omega (arith, sum-aligned a (lines_of u method a (glyphs_of u.ambiguous line)), lines_of_few u method a (glyphs_of u.ambiguous line))

all-few : (u : Rule) (method : Method) (default : Alignment) (ls : List TextLine) → sum_of glyphs_in (all_lines u method default ls) ≤ length (line_glyphs u.ambiguous ls)
all-few u method default [] = omega arith
all-few u method default (line ∷ rest) =
    omega (
      arith,
      sum-append glyphs_in (line_lines u method default line) (all_lines u method default rest),
      length-append (glyphs_of u.ambiguous line) (line_glyphs u.ambiguous rest),
      line-few u method default line,
      all-few u method default rest,
    )

-- the lines of a text have no more glyphs than it has records
lines-few : (u : Rule) (method : Method) (default : Alignment) (text : List ℕ) → sum_of glyphs_in (lines u method default text) ≤ length text
unfolding lines
lines-few u method default text =
    omega (
      arith,
      all-few u method default (lines_from 0 text),
      simp length-append at (ap length (split-glyphs u.ambiguous 0 text)),
      glyphs-short u.ambiguous 0 text,
    )

-- a count bounded by each line's glyphs is bounded by the records, over any consecutive lines of the text
pub counted-few : (u : Rule) (method : Method) (default : Alignment) (text : List ℕ) (f : Line → ℕ) (n k : ℕ) → ((line : Line) → f line ≤ glyphs_in line)
    → sum_of f (take n (drop k (lines u method default text))) ≤ length text
counted-few u method default text f n k h =
    omega (
      arith,
      sum_less f glyphs_in (take n (drop k (lines u method default text))) h,
      sum-take glyphs_in n (drop k (lines u method default text)),
      sum_drop glyphs_in k (lines u method default text),
      lines-few u method default text,
    )
