-- Sums of counts, glyph by glyph in a line and line by line in a text; the loop of `one_line_counts`.
use Prim.Native.Nat.{ℕ, suc, ◌+◌, ◌*◌, ◌≤◌, ◌<◌}
use mathlib.Core.Path.{◌≡◌, refl, sym, ◌∙◌}
use mathlib.Core.Bool.{true, false}
use mathlib.Core.List.{List, [], ◌∷◌, append-nil}
use native.Mathlib.Nat.{add-zero, zero-add, add_assoc}
use native.Mathlib.Numerals.{add-one}
use native.Mathlib.Omega.{arith}
use borrow.Author.Tests.{lt-ltb, le-ltb}
use lib.Dec.{ltb}
use lib.ListN.{length, get_or}
use lib.Seq.{slice, slice_empty, slice-cons}
use Rattle.text.specs.Record.{width_of}
use Rattle.text.specs.Lists.{count_of}
use Rattle.text.specs.Line.{Glyph, glyph_from, numbered, Start, starts_from}
use Rattle.text.proofs.Lists.{count-append}
use Rattle.text.proofs.Reading.{width-most}
use Rattle.wrapping.specs.declared.Rule.{Rule}
use Rattle.wrapping.specs.Wrapping.{is_over_wide, not_over_wide}
use Rattle.place.specs.declared.Place.{Place}
use Rattle.place.specs.declared.Place.TheVariants.{ZeroWidth, Placed, Halved, Outside}
use Rattle.place.specs.Place.{place_of}
use Rattle.line_composer.specs.declared.WrappedLine.{WrappedLine}
use Rattle.line_composer.specs.Lines.{Line, line_at}
use Rattle.line_composer.specs.Places.{place_in, is_placed, is_clipped, is_zero_width}
use Rattle.tally_lines.specs.declared.LineCounts.{LineCounts}
use Rattle.tally_lines.specs.TallyingExtra.{empty_lines, with_glyph, sum, line_counts}
use Rattle.tally_lines.proofs.Ways.{ways}

-- counts of glyphs by kind
unfoldable pub start_counts : ℕ → List Start → LineCounts
start_counts limit ss =
    record {
      lines = 0;
      placed = count_of (is_placed limit) ss;
      clipped = count_of (is_clipped limit) ss;
      zero_width = count_of is_zero_width ss;
    }

-- counting a glyph now or with the remaining ones gives the same sum
sum_with : (limit : ℕ) (c : LineCounts) (s : Start) (ss : List Start)
    → sum (with_glyph c (place_in limit s)) (start_counts limit ss) ≡ sum c (start_counts limit (s ∷ ss))
unfolding sum start_counts with_glyph
sum_with limit c s ss =
    ways limit s _
    (λ b. simp (b.of_place, b.of_zero_width, b.of_placed, b.of_clipped, zero-add, add_assoc))
    (λ b. simp (b.of_place, b.of_zero_width, b.of_placed, b.of_clipped, zero-add, add_assoc))
    (λ b. simp (b.of_place, b.of_zero_width, b.of_placed, b.of_clipped, zero-add, add_assoc))
    (λ b. simp (b.of_place, b.of_zero_width, b.of_placed, b.of_clipped, zero-add, add_assoc))

pub sum-none : (c : LineCounts) → sum c (empty_lines 0) ≡ c
unfolding sum
sum-none c = simp add-zero

pub none-sum : (c : LineCounts) → sum (empty_lines 0) c ≡ c
unfolding sum
none-sum c = simp zero-add

pub sum_assoc : (a b c : LineCounts) → sum (sum a b) c ≡ sum a (sum b c)
unfolding sum
sum_assoc a b c = simp add_assoc

-- the counts of a line are those of its glyphs, and the counts of lines are those of the first plus those of the rest
one_line : (limit : ℕ) (line : Line) → line_counts limit (line ∷ []) ≡ sum (empty_lines 1) (start_counts limit (starts_from 0 line.glyphs))
unfolding sum start_counts line_counts
one_line limit line = simp (append-nil, zero-add)

pub first-line : (limit : ℕ) (line : Line) (rest : List Line) → line_counts limit (line ∷ rest) ≡ sum (line_counts limit (line ∷ [])) (line_counts limit rest)
unfolding sum line_counts
first-line limit line rest = let n : 1 + length rest ≡ suc (length rest) = omega arith in simp (append-nil, count-append, n)

-- counting a glyph adds 1 to the counts' sum
with_more : (c : LineCounts) (p : Place) → (with_glyph c p).placed + (with_glyph c p).clipped + (with_glyph c p).zero_width ≡ c.placed + c.clipped + c.zero_width + 1
unfolding with_glyph
with_more c ZeroWidth = omega arith
with_more c Placed = omega arith
with_more c Halved = omega arith
with_more c Outside = omega arith

-- the glyphs of the records from i to `end`
abbrev pub glyphs_between : Rule → List ℕ → ℕ → ℕ → List Glyph
glyphs_between u text i end = not_over_wide u (numbered u.ambiguous i (slice i end text))

-- Invariant of `one_line_counts`: of the records from `first` to `end` those before i are counted. The counts so far plus those
-- of the others are those of the line, no more glyphs are counted than records were read, and each is at most 7 columns wide.
pub record Placing (u : Rule) (text : List ℕ) (first end : ℕ) (c : LineCounts) (column i : ℕ) : Type 0 where
  pub within : i ≤ end
  pub same : sum c (start_counts u.limit (starts_from column (glyphs_between u text i end))) ≡ sum (empty_lines 1) (start_counts u.limit (starts_from 0 (glyphs_between u text first end)))
  pub few : c.placed + c.clipped + c.zero_width + first ≤ i
  pub near : column + 7 * first ≤ 7 * i

module _ (u : Rule) (text : List ℕ) (first end : ℕ) where
  pub placing_starts : (c : LineCounts) → c ≡ empty_lines 1 → first ≤ end → Placing u text first end c 0 first
  placing_starts c e h =
      rw e (record { within = h; same = refl; few = omega arith; near = omega arith })

  module _ (c : LineCounts) (column i : ℕ) (p : Placing u text first end c column i) where
    module _ (b : i < end) (l : end ≤ length text) (w : ℕ) (e : w ≡ width_of u.ambiguous (get_or text i 0)) where
      abbrev here : Glyph
      here = glyph_from u.ambiguous i (get_or text i 0)

      small : w ≤ 6
      small = omega (arith, width-most u.ambiguous (get_or text i 0))

      -- record i is skipped if over-wide, else it is the next glyph of the line
      skipped : u.limit < w → glyphs_between u text i end ≡ glyphs_between u text (i + 1) end
      unfolding is_over_wide
      skipped o =
          let t : ltb u.limit (width_of u.ambiguous (get_or text i 0)) ≡ true = lt-ltb u.limit (width_of u.ambiguous (get_or text i 0)) (omega arith) in
          rw (add-one, slice-cons i end text 0 b l, t)

      kept : w ≤ u.limit → glyphs_between u text i end ≡ here ∷ glyphs_between u text (i + 1) end
      unfolding is_over_wide
      kept h =
          let t : ltb u.limit (width_of u.ambiguous (get_or text i 0)) ≡ false = le-ltb u.limit (width_of u.ambiguous (get_or text i 0)) (omega arith) in
          rw (add-one, slice-cons i end text 0 b l, t)

      pub placing_skips : u.limit < w → Placing u text first end c column (i + 1)
      placing_skips o =
          record {
            within = omega arith;
            same = rw (skipped o) at p.same;
            few = omega (arith, p.few);
            near = omega (arith, p.near);
          }

      pub placing_goes : w ≤ u.limit → (d : LineCounts) → d ≡ with_glyph c (place_of u.limit column w) → Placing u text first end d (column + w) (i + 1)
      placing_goes h d f =
          record {
            within = omega arith;
            same = rw (f, e) (sum_with u.limit c (record { start = column; glyph = here }) _ ∙ rw (kept h) at p.same);
            few = rw f (omega (arith, p.few, with_more c (place_of u.limit column w)));
            near = omega (arith, p.near, small);
          }

pub placing_done : (u : Rule) (text : List ℕ) (line : WrappedLine) (c : LineCounts) (column i : ℕ) → Placing u text line.first line.end c column i
    → line.end ≤ i → c ≡ line_counts u.limit (line_at u text line ∷ [])
unfolding line_at start_counts
placing_done u text line c column i p h =
    let k : i ≡ line.end = omega (arith, p.within) in
    let n : slice i line.end text ≡ [] = rw k (slice_empty line.end text) in
    let s : sum c (empty_lines 0) ≡ sum (empty_lines 1) (start_counts u.limit (starts_from 0 (glyphs_between u text line.first line.end))) = rw n at p.same in
    sym (sum-none c) ∙ s ∙ sym (one_line u.limit (line_at u text line))

pub ruleset placing = (placing_starts, placing_skips, placing_goes, placing_done)
