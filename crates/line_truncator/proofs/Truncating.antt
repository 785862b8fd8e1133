-- Laws of the loop of `shown_run`: it shows a text line's glyphs until one passes the limit.
use Prim.Native.Nat.{ℕ, ◌+◌, ◌-◌, ◌*◌, ◌≤◌, ◌<◌}
use mathlib.Core.Path.{◌≡◌, refl, ap, ◌∙◌}
use mathlib.Core.Bool.{false}
use mathlib.Core.List.{List, [], ◌∷◌, ◌++◌, append_assoc, append-nil}
use native.Mathlib.Omega.{arith}
use native.Mathlib.Numerals.{add-one}
use borrow.Author.Tests.{lt-ltb, le-ltb, le-leb, lt-leb}
use lib.ListN.{length, get_or, drop, drop_of_length-le}
use lib.Seq.{drop-cons}
use Rattle.text.specs.Record.{width_of}
use Rattle.text.specs.Line.{Glyph, glyph_from, numbered}
use Rattle.text.proofs.Reading.{width-most}
use Rattle.wrapping.specs.declared.Run.{Run}
use Rattle.wrapping.specs.declared.Rule.{Rule}
use Rattle.wrapping.specs.Wrapping.{is_over_wide}
use Rattle.wrapping.specs.RunsExtra.{empty_run, run_of, push_run}
use Rattle.line_truncator.specs.Truncation.{ends, swallows, shown_from}
use Rattle.wrapping.proofs.ListRuns.{run_push}

-- Loop invariant: before each turn, the run is that of the glyphs shown so far, and the remaining ones are shown from record i
-- on, with the remaining offset.
pub record Showing (u : Rule) (records : List ℕ) (offset₀ offset : ℕ) (run : Run) (i : ℕ) : Type 0 where
  pub glyphs : List Glyph
  pub is_run : run ≡ run_of glyphs
  pub same : shown_from u offset₀ 0 (numbered u.ambiguous 0 records) ≡ glyphs ++ shown_from u offset run.width (numbered u.ambiguous i (drop i records))
  pub within : i ≤ length records
  pub narrow : run.width ≤ 7 * i

module _ (u : Rule) (records : List ℕ) (offset₀ : ℕ) where
  -- no glyph is shown yet
  pub showing_starts : (run : Run) → run ≡ empty_run → Showing u records offset₀ offset₀ run 0
  showing_starts run e = rw e (record { glyphs = []; is_run = refl; same = refl; within = omega arith; narrow = omega arith })

  module _ (offset : ℕ) (run : Run) (i : ℕ) (s : Showing u records offset₀ offset run i) where
    -- if no glyph remains to be shown, the run is that of the whole line
    all_shown : shown_from u offset run.width (numbered u.ambiguous i (drop i records)) ≡ [] → run ≡ run_of (shown_from u offset₀ 0 (numbered u.ambiguous 0 records))
    all_shown e = rw (s.same, e, append-nil) s.is_run

    -- all records are read
    pub showing_ends : length records ≤ i → run ≡ run_of (shown_from u offset₀ 0 (numbered u.ambiguous 0 records))
    showing_ends h = all_shown (rw (drop_of_length-le records h))

    module _ (w : ℕ) (h : i < length records) (e : w ≡ width_of u.ambiguous (get_or records i 0)) where
      abbrev glyph : Glyph
      glyph = glyph_from u.ambiguous i (get_or records i 0)

      abbrev later : List Glyph
      later = numbered u.ambiguous (i + 1) (drop (i + 1) records)

      -- record i is the next glyph
      next_glyph : shown_from u offset run.width (numbered u.ambiguous i (drop i records)) ≡ shown_from u offset run.width (glyph ∷ later)
      next_glyph = rw (drop-cons records i 0 h, add-one i)

      -- the glyph isn't shown
      unshown_keeps : (less : ℕ) → shown_from u offset run.width (glyph ∷ later) ≡ shown_from u less run.width later → Showing u records offset₀ less run (i + 1)
      unshown_keeps less n =
          record {
            glyphs = s.glyphs;
            is_run = s.is_run;
            same = s.same ∙ ap (λ (l : List Glyph). s.glyphs ++ l) (next_glyph ∙ n);
            within = omega arith;
            narrow = omega (arith, s.narrow);
          }

      -- the glyph is over-wide
      pub showing_skips : u.limit < w → Showing u records offset₀ offset run (i + 1)
      unfolding is_over_wide
      showing_skips o = unshown_keeps offset (rw (← e, lt-ltb u.limit w o))

      -- the glyph passes the limit
      pub showing_stops : w ≤ u.limit → u.limit < run.width + w → run ≡ run_of (shown_from u offset₀ 0 (numbered u.ambiguous 0 records))
      unfolding is_over_wide ends
      showing_stops o f = all_shown (next_glyph ∙ rw (← e, le-ltb u.limit w o, lt-ltb u.limit (run.width + w) f))

      -- the glyph fits, so it isn't over-wide
      module _ (f : run.width + w ≤ u.limit) where
        fits : w ≤ u.limit
        fits = omega arith

        -- the offset swallows the glyph
        pub showing_swallows : 0 < offset → w ≤ offset → Showing u records offset₀ (offset - w) run (i + 1)
        unfolding is_over_wide ends swallows
        showing_swallows p q =
            unshown_keeps (offset - w) (rw (← e, le-ltb u.limit w fits, le-ltb u.limit (run.width + w) f, lt-ltb 0 offset p, le-leb w offset q))

        module _ (next : Run) (push : next ≡ push_run run i w) where
          -- the glyph is shown, and no offset remains
          shown_keeps : (left : ℕ) → left ≡ 0 → swallows offset glyph ≡ false → Showing u records offset₀ left next (i + 1)
          unfolding is_over_wide ends push_run
          shown_keeps left z p =
              let n : shown_from u offset run.width (glyph ∷ later) ≡ glyph ∷ shown_from u 0 (run.width + w) later
              = rw (p, ← e, le-ltb u.limit w fits, le-ltb u.limit (run.width + w) f) in
              let v : next.width ≡ run.width + w = ap (λ (r : Run). r.width) push in
              record {
                glyphs = s.glyphs ++ (glyph ∷ []);
                is_run = rw (run_push s.glyphs glyph) (cc);
                same = s.same ∙ ap (λ (l : List Glyph). s.glyphs ++ l) (next_glyph ∙ n) ∙ rw (append_assoc, v, z);
                within = omega arith;
                narrow = omega (arith, s.narrow, width-most u.ambiguous (get_or records i 0));
              }

          -- no offset remained
          pub showing_past : (left : ℕ) → offset ≤ 0 → left ≡ offset → Showing u records offset₀ left next (i + 1)
          unfolding swallows
          showing_past left p q = shown_keeps left (omega arith) (rw (le-ltb 0 offset p))

          -- the glyph is wider than the remaining offset
          pub showing_half : (left : ℕ) → 0 < offset → offset < w → left ≡ 0 → Showing u records offset₀ left next (i + 1)
          unfolding swallows
          showing_half left p q z = shown_keeps left z (rw (← e, lt-ltb 0 offset p, lt-leb w offset q))

pub ruleset showing = (showing_starts, showing_ends, showing_skips, showing_stops, showing_swallows, showing_past, showing_half)
