-- Each part of a step keeps the invariant, and its tests agree with those of the rules.
use Prim.Native.Nat.{ℕ, ◌+◌, ◌-◌, ◌*◌, ◌≤◌, ◌<◌}
use mathlib.Core.Path.{◌≡◌, refl, sym, ap, ◌∙◌}
use mathlib.Core.Bool.{Bool, true, false, cond, not, ◌||◌, true≢false}
use mathlib.Core.List.{List, [], ◌∷◌, ◌++◌, append_assoc, append-nil}
use native.Mathlib.Omega.{arith}
use native.Mathlib.Numerals.{add-one}
use lib.Dec.{eqb}
use lib.ListN.{length, get_or, take}
use lib.Seq.{take-suc, length-take-le}
use Rattle.text.specs.Line.{Glyph, glyph_from, numbered, total}
use Rattle.wrapping.specs.declared.Run.{Run}
use Rattle.wrapping.specs.declared.Rule.{Rule}
use Rattle.word_wrapper.specs.declared.WordWrapper.{WordWrapper}
use Rattle.wrapping.specs.Wrapping.{Pending, empty, is_over_wide, must_join, takes_spaces, gathered, joined, unjoined, full, fitting, emptied, appended, not_over_wide}
use Rattle.wrapping.specs.RunsExtra.{run_of, append_run, push_run, drop_run, Spans}
use Rattle.pending.specs.TestsExtra.{gather_run, overflowing, joins, full_run}
use Rattle.word_wrapper.specs.StepsExtra.{pending_of, join_run, join_if_due_run, emit_row_run, skip_glyph_run, append_glyph_run}
use Rattle.word_wrapper.specs.PullsExtra.{Shows, WrapperInvariant}
use Rattle.text.proofs.Bools.{cond_cases}
use Rattle.wrapping.proofs.ListRuns.{total-append, run_empty, run_width, run_append, run_push, total_bound, Read, glyphs_run}
use Rattle.wrapping.proofs.Splits.{numbered-append, narrow-append, gathered-split, fitting-split}

module _ (u : Rule) (records : List ℕ) (s : WordWrapper) (t : Pending) (h : Shows u records s t) where
  pub shows-sum : s.row.width + s.spaces.width + s.word.width ≤ 7 * s.at
  shows-sum =
      let r : s.row.width ≡ total t.row = ap (λ (x : Run). x.width) h.is_row ∙ run_width t.row in
      let p : s.spaces.width ≡ total t.spaces = ap (λ (x : Run). x.width) h.is_spaces ∙ run_width t.spaces in
      let w : s.word.width ≡ total t.word = ap (λ (x : Run). x.width) h.is_word ∙ run_width t.word in
      omega (arith, simp total-append at (ap total h.split), total_bound u 0 (take s.at records), length-take-le s.at records h.within)

  pub row_read : Read u records t.row
  row_read = glyphs_run u s.at records h.left t.row (t.spaces ++ t.word) h.within h.split

  spaces-read : Read u records t.spaces
  spaces-read =
      glyphs_run u s.at records (h.left ++ t.row) t.spaces t.word h.within (h.split ∙ sym (append_assoc h.left t.row (t.spaces ++ t.word)))

  pub shows-spaces : Spans u records s.spaces
  shows-spaces = rw h.is_spaces spaces-read.spans

  pub spaces-empty : eqb s.spaces.end 0 ≡ empty t.spaces
  spaces-empty = rw h.is_spaces (run_empty t.spaces)

  pub join_tests_agree : (g : Glyph) → joins u (pending_of s) g.width g.whitespace ≡ must_join u t g
  unfolding joins overflowing must_join
  join_tests_agree g = simp (h.is_row, h.is_spaces, h.is_word, h.is_solid, run_empty, run_width)

  pub full_tests_agree : (g : Glyph) → full_run u (pending_of s) g.width ≡ full u t g
  unfolding full_run full
  full_tests_agree g = simp (h.is_row, h.is_spaces, h.is_word, run_width)

  pub gathered_agree : gather_run u.trim (pending_of s) ≡ run_of (gathered u t)
  unfolding gather_run gathered takes_spaces
  gathered_agree = rw (h.is_row, h.is_spaces, h.is_word) (both u.trim t.row t.spaces t.word)
    where
      both : (trim : Bool) (row spaces word : List Glyph) →
          cond (eqb (run_of row).end 0) (cond trim (run_of word) (append_run (run_of spaces) (run_of word))) (append_run (append_run (run_of row) (run_of spaces)) (run_of word))
          ≡ run_of ((row ++ cond (not (empty row) || not trim) spaces []) ++ word)
      both true [] spaces word = refl
      both false [] spaces word = sym (run_append spaces word)
      both trim (g ∷ row) spaces word = simp (run_empty (g ∷ row), run_append (g ∷ (row ++ spaces)) word, run_append (g ∷ row) spaces)

  -- the glyphs read so far, split after a join or at the text line's end
  split-gathered : not_over_wide u (numbered u.ambiguous 0 (take s.at records)) ≡ (h.left ++ unjoined u t) ++ (gathered u t ++ [])
  split-gathered = h.split ∙ ap (λ (x : List Glyph). h.left ++ x) (gathered-split u t) ∙ simp (append_assoc, append-nil)

  pub gathered-read : Read u records (gathered u t)
  gathered-read = glyphs_run u s.at records (h.left ++ unjoined u t) (gathered u t) [] h.within split-gathered

  pub join-shows : Shows u records (join_run u.trim s) (joined u t)
  unfolding join_run joined
  join-shows =
      record {
        left = h.left ++ unjoined u t;
        is_row = gathered_agree;
        is_spaces = refl;
        is_word = refl;
        is_solid = h.is_solid;
        split = split-gathered;
        wordless = λ _. refl;
        within = h.within;
      }

  pub joined-sound : (w : ℕ) (space : Bool) → WrapperInvariant u records (join_if_due_run u s w space)
  unfolding join_if_due_run
  joined-sound w space =
      cond_cases (WrapperInvariant u records) (joins u (pending_of s) w space) (join_run u.trim s) s
      (λ _. record { pending = joined u t; shows = join-shows })
      (λ _. record { pending = t; shows = h })

  pub emptied-shows : Shows u records (emit_row_run u records s) (emptied u t)
  unfolding emit_row_run emptied drop_run
  emptied-shows =
      let room : ℕ = u.limit - total t.row in
      let w : s.row.width ≡ total t.row = ap (λ (x : Run). x.width) h.is_row ∙ run_width t.row in
      record {
        left = h.left ++ (t.row ++ fitting room t.spaces);
        is_row = refl;
        is_spaces = rw (h.is_spaces, spaces-read.glyphs, w);
        is_word = h.is_word;
        is_solid = h.is_solid;
        split = h.split ∙ ap (λ (x : List Glyph). h.left ++ (t.row ++ (x ++ t.word))) (fitting-split room t.spaces) ∙ simp append_assoc;
        wordless = h.wordless;
        within = h.within;
      }

  -- the glyph at `at`
  module _ (g : Glyph) (in_text : s.at < length records) (e : g ≡ glyph_from u.ambiguous s.at (get_or records s.at 0)) where
    read_next : not_over_wide u (numbered u.ambiguous 0 (take (s.at + 1) records)) ≡ (h.left ++ (t.row ++ (t.spaces ++ t.word))) ++ not_over_wide u (g ∷ [])
    read_next =
        let n : 0 + length (take s.at records) ≡ s.at = omega (arith, length-take-le s.at records (omega arith)) in
        rw (add-one s.at, take-suc records s.at 0 in_text, numbered-append, narrow-append, n, h.split, ← e)

    pub wide-shows : is_over_wide u g ≡ true → Shows u records (skip_glyph_run s) t
    unfolding skip_glyph_run
    wide-shows o =
        record {
          left = h.left;
          is_row = h.is_row;
          is_spaces = h.is_spaces;
          is_word = h.is_word;
          is_solid = h.is_solid;
          split = read_next ∙ rw (o, append-nil);
          wordless = h.wordless;
          within = omega arith;
        }

    module _ (o : is_over_wide u g ≡ false) where
      pub dropped-shows : t.row ≡ [] → t.spaces ≡ [] → t.word ≡ [] → Shows u records (skip_glyph_run s) t
      unfolding skip_glyph_run
      dropped-shows a b c =
          record {
            left = h.left ++ (g ∷ []);
            is_row = h.is_row;
            is_spaces = h.is_spaces;
            is_word = h.is_word;
            is_solid = h.is_solid;
            split = read_next ∙ simp (o, a, b, c, append-nil);
            wordless = h.wordless;
            within = omega arith;
          }

      pub appended-shows : (g.whitespace ≡ true → t.word ≡ []) → Shows u records (append_glyph_run s g.width g.whitespace) (appended t g)
      unfolding append_glyph_run appended
      appended-shows f = both g.whitespace f
        where
          number_is : g.number ≡ s.at
          number_is = ap (λ (x : Glyph). x.number) e

          both : (b : Bool) → (b ≡ true → t.word ≡ []) →
              Shows u records
              (cond b
              (record { row = s.row; spaces = push_run s.spaces s.at g.width; word = s.word; solid = false; emitted = s.emitted; live = s.live; at = s.at + 1 })
              (record { row = s.row; spaces = s.spaces; word = push_run s.word s.at g.width; solid = true; emitted = s.emitted; live = s.live; at = s.at + 1 }))
              (cond b
              (record { row = t.row; spaces = t.spaces ++ (g ∷ []); word = t.word; solid = false })
              (record { row = t.row; spaces = t.spaces; word = t.word ++ (g ∷ []); solid = true }))
          both true p =
              record {
                left = h.left;
                is_row = h.is_row;
                is_spaces = rw (h.is_spaces, ← number_is) (sym (run_push t.spaces g));
                is_word = h.is_word;
                is_solid = refl;
                split = read_next ∙ simp (o, p refl, append-nil, append_assoc);
                wordless = λ _. p refl;
                within = omega arith;
              }
          both false p =
              record {
                left = h.left;
                is_row = h.is_row;
                is_spaces = h.is_spaces;
                is_word = rw (h.is_word, ← number_is) (sym (run_push t.word g));
                is_solid = refl;
                split = read_next ∙ simp (o, append_assoc);
                wordless = λ z. absurd (true≢false z);
                within = omega arith;
              }
