-- The loop of `read_glyph_counts`: the records of a text read one by one.
use Prim.Native.Nat.{ℕ, ◌+◌, ◌≤◌, ◌<◌}
use mathlib.Core.Path.{◌≡◌}
use mathlib.Core.Bool.{Bool, true, false}
use mathlib.Core.List.{List, [], ◌∷◌}
use native.Mathlib.Numerals.{add-one}
use native.Mathlib.Omega.{arith}
use borrow.Author.Tests.{lt-ltb, le-ltb}
use lib.Dec.{ltb}
use lib.ListN.{length, get_or, drop, drop_of_length-le}
use lib.Seq.{drop-cons}
use Rattle.text.specs.Record.{is_head, width_of}
use Rattle.text.specs.Line.{Glyph, glyph_from, glyphs_from}
use Rattle.wrapping.specs.declared.Rule.{Rule}
use Rattle.wrapping.specs.Wrapping.{is_over_wide, over_wides}
use Rattle.tally.specs.TallyingExtra.{glyph_counts}

-- the glyphs from record i on
abbrev pub after : Rule → List ℕ → ℕ → List Glyph
after u text i = glyphs_from u.ambiguous i (drop i text)

-- Invariant of `read_glyph_counts`: i records were read; the counts so far plus those of the remaining records are those of the text.
pub record Passing (u : Rule) (text : List ℕ) (glyphs over i : ℕ) : Type 0 where
  pub within : i ≤ length text
  pub glyphs_few : glyphs ≤ i
  pub over_few : over ≤ i
  pub all : glyphs + length (after u text i) ≡ length (glyphs_from u.ambiguous 0 text)
  pub wide : over + length (over_wides u (after u text i)) ≡ length (over_wides u (glyphs_from u.ambiguous 0 text))

module _ (u : Rule) (text : List ℕ) where
  pub passing_starts : Passing u text 0 0 0
  passing_starts = record { within = omega arith; glyphs_few = omega arith; over_few = omega arith; all = omega arith; wide = omega arith }

  module _ (glyphs over i : ℕ) (p : Passing u text glyphs over i) where
    module _ (h : i < length text) (b : Bool) (e : b ≡ is_head (get_or text i 0)) where
      pub passing_head : b ≡ true → Passing u text glyphs over (i + 1)
      passing_head t =
          let k : after u text i ≡ after u text (i + 1) = rw (add-one, drop-cons text i 0 h, ← e, t) in
          record {
            within = omega arith;
            glyphs_few = omega (arith, p.glyphs_few);
            over_few = omega (arith, p.over_few);
            all = rw k at p.all;
            wide = rw k at p.wide;
          }

      module _ (f : b ≡ false) (w : ℕ) (g : w ≡ width_of u.ambiguous (get_or text i 0)) where
        glyph-first : after u text i ≡ glyph_from u.ambiguous i (get_or text i 0) ∷ after u text (i + 1)
        glyph-first = rw (add-one, drop-cons text i 0 h, ← e, f)

        pub passing_wide : u.limit < w → Passing u text (glyphs + 1) (over + 1) (i + 1)
        unfolding is_over_wide
        passing_wide o =
            let t : ltb u.limit (width_of u.ambiguous (get_or text i 0)) ≡ true = lt-ltb u.limit (width_of u.ambiguous (get_or text i 0)) (omega arith) in
            record {
              within = omega arith;
              glyphs_few = omega (arith, p.glyphs_few);
              over_few = omega (arith, p.over_few);
              all = omega (arith, rw glyph-first at p.all);
              wide = omega (arith, rw (glyph-first, t) at p.wide);
            }

        pub passing_narrow : w ≤ u.limit → Passing u text (glyphs + 1) over (i + 1)
        unfolding is_over_wide
        passing_narrow o =
            let t : ltb u.limit (width_of u.ambiguous (get_or text i 0)) ≡ false = le-ltb u.limit (width_of u.ambiguous (get_or text i 0)) (omega arith) in
            record {
              within = omega arith;
              glyphs_few = omega (arith, p.glyphs_few);
              over_few = omega (arith, p.over_few);
              all = omega (arith, rw glyph-first at p.all);
              wide = rw (glyph-first, t) at p.wide;
            }

    pub passing_done : length text ≤ i → record { glyphs = glyphs; over_wide = over } ≡ glyph_counts u text
    unfolding glyph_counts
    passing_done h =
        let n : drop i text ≡ [] = drop_of_length-le text h in
        let a : glyphs ≡ length (glyphs_from u.ambiguous 0 text) = omega (arith, rw n at p.all) in
        let w : over ≡ length (over_wides u (glyphs_from u.ambiguous 0 text)) = omega (arith, rw n at p.wide) in
        cc

pub ruleset passing = (passing_starts, passing_head, passing_wide, passing_narrow, passing_done)
