-- Facts about accepted inputs that follow when a cause doesn't hold.
use Prim.Native.Nat.{ℕ, ◌*◌, ◌≤◌, ◌<◌}
use mathlib.Core.Path.{◌≡◌, sym, ◌∙◌}
use mathlib.Core.Bool.{false, not, ◌||◌, and-eq-true_iff}
use mathlib.Core.List.{List}
use native.Mathlib.Omega.{arith}
use borrow.Author.Tests.{ltb-false, leb-true, eqb-true, not-false}
use lib.Dec.{eqb, leb, ltb}
use lib.ListN.{length}
use Rattle.text.specs.Line.{lines_from, not_opening, Opens, FewRecords}
use Rattle.text.specs.Lists.{some}
use Rattle.text.proofs.Bools.{neither}
use Rattle.refuse.specs.declared.Ceilings.{Ceilings}
use Rattle.refuse.specs.declared.Refusal.TheVariants.{TextLength, TextHeads, Limit}
use Rattle.std.specs.Prelude.{Ok}
use Rattle.refuse.specs.Refusal.{Verdict, first_cause}
use Rattle.refuse.specs.Causes.{most_accepted, text_causes, line_causes, one_to, screen_wrong, text_too_long, text_head_wrong, text_heads_wrong, too_many_glyphs, position_three, head_zeros_set, titles_wrong, limit_wrong}
use Rattle.refuse.proofs.Calls.{no_cause}

-- the screen, if cause 1 doesn't hold
pub record ScreenAccepted (most : Ceilings) (columns rows cells : ℕ) : Type 0 where
  pub some_columns : 0 < columns
  pub most_columns : columns ≤ most.columns
  pub most_rows : rows ≤ most.rows
  pub all_cells : cells ≡ columns * rows

pub sized : (most : Ceilings) (columns rows cells : ℕ) → screen_wrong most columns rows cells ≡ false → ScreenAccepted most columns rows cells
unfolding screen_wrong
sized most columns rows cells e =
    let sizes = not (one_to most.columns columns) || not (one_to most.rows rows) in
    let right = neither sizes (not (eqb cells (columns * rows))) e in
    let both-sizes = neither (not (one_to most.columns columns)) (not (one_to most.rows rows)) right.0 in
    let across = (and-eq-true_iff (leb 1 columns) (leb columns most.columns)).0 (not-false _ both-sizes.0) in
    let down = (and-eq-true_iff (leb 1 rows) (leb rows most.rows)).0 (not-false _ both-sizes.1) in
    record {
      some_columns = leb-true 1 columns across.0;
      most_columns = leb-true columns most.columns across.1;
      most_rows = leb-true rows most.rows down.1;
      all_cells = eqb-true cells (columns * rows) (not-false _ right.1);
    }

-- cause 3 doesn't hold
pub text-short : (most : Ceilings) (text : List ℕ) → text_too_long most text ≡ false → length text ≤ most.records
text-short most text e = ltb-false most.records (length text) e

-- cause 4 doesn't hold
pub text-opens : (text : List ℕ) → text_heads_wrong text ≡ false → Opens text
unfolding text_heads_wrong
text-opens text e = (neither (not_opening text) (some text_head_wrong text) e).0

-- cause 5 doesn't hold; of its five tests, only that the records open with a head
pub titles_open : (most : Ceilings) (titles : List ℕ) → titles_wrong most titles ≡ false → Opens titles
unfolding titles_wrong
titles_open most titles e =
    let lines = lines_from 0 titles in
    let counts = ltb most.titles (length lines) || some (too_many_glyphs most) lines in
    let with-positions = (neither (counts || not_opening titles || some position_three lines) (some head_zeros_set lines) e).0 in
    let with-opening = (neither (counts || not_opening titles) (some position_three lines) with-positions).0 in
    (neither counts (not_opening titles) with-opening).1

-- the text, if causes 3 and 4 don't hold: the facts that a call which reads it needs
pub record TextAccepted (text : List ℕ) : Type 0 where
  pub short : length text ≤ most_accepted.records
  pub few : FewRecords text
  pub opens : Opens text

pub sound : (text : List ℕ) → text_too_long most_accepted text ≡ false → text_heads_wrong text ≡ false → TextAccepted text
sound text l h =
    let short = text-short most_accepted text l in
    record { short = short; few = omega arith; opens = text-opens text h }

-- cause 8 doesn't hold
pub limit_low : (most : Ceilings) (limit : ℕ) → limit_wrong most limit ≡ false → limit ≤ most.limit
limit_low most limit e = ltb-false most.limit limit e

-- v is the verdict of a call that composes the lines of a text at a limit
module _ (text : List ℕ) (limit : ℕ) (v : Verdict) (e : v ≡ first_cause (line_causes most_accepted text limit)) (a : v ≡ Ok tt) where
  pub lines_sound : TextAccepted text
  unfolding line_causes text_causes
  lines_sound =
      let causes = line_causes most_accepted text limit in
      sound text (no_cause causes TextLength (sym e ∙ a)) (no_cause causes TextHeads (sym e ∙ a))

  pub lines_limit : limit ≤ most_accepted.limit
  unfolding line_causes text_causes
  lines_limit = limit_low most_accepted limit (no_cause (line_causes most_accepted text limit) Limit (sym e ∙ a))
