-- The number of a notice's lines: one law for each path through `count_at`, and its bound.
use Prim.Native.Nat.{ℕ, ◌<◌, ◌≤◌}
use mathlib.Core.Path.{◌≡◌, sym, ◌∙◌}
use mathlib.Core.Bool.{Bool}
use mathlib.Core.List.{List, [], ◌∷◌}
use native.Mathlib.Omega.{arith}
use borrow.Author.Tests.{ne_eqb}
use lib.ListN.{length, length-append, length-map}
use Rattle.text.specs.declared.Alignment.{Alignment}
use Rattle.text.specs.declared.AmbiguousWidth.{AmbiguousWidth}
use Rattle.text.specs.Record.{alignment_of}
use Rattle.text.specs.Alignment.{resolved}
use Rattle.text.specs.Line.{Glyph, TextLine, lines_from, glyphs_of}
use Rattle.wrapping.specs.declared.Rule.{Rule}
use Rattle.wrapping.specs.Rule.{rule_of}
use Rattle.line_truncator.specs.Truncation.{truncate}
use Rattle.line_composer.specs.declared.Wrap.{Wrap}
use Rattle.line_composer.specs.declared.Wrap.TheVariants.{Off, On}
use Rattle.line_composer.specs.declared.Method.TheVariants.{WordWrap, Truncate}
use Rattle.line_composer.specs.Lines.{aligned, lines_of, line_lines, all_lines, lines}
use Rattle.line_composer.specs.Wrap.{method_of, rule_at}
use Rattle.line_composer.proofs.Bounds.{lines-short}
use Rattle.measure.proofs.Lines.{text-lines-few}
use Rattle.render_text.specs.declared.TextSettings.{TextSettings}
use Rattle.paragraph.specs.declared.Notice.{Notice}
use Rattle.paragraph.specs.Notice.{settings_of, notice_lines}

-- at a limit above 0, truncation gives one line for each text line
module _ (u : Rule) (column : ℕ) (some : 0 < u.limit) where
  truncate-one : (alignment : Alignment) (gs : List Glyph) → length (truncate u column alignment gs) ≡ 1
  unfolding truncate
  truncate-one alignment gs = rw (ne_eqb u.limit 0 (λ (e : u.limit ≡ 0). omega arith))

  one_for_each : (default : Alignment) (ls : List TextLine) → length (all_lines u (Truncate column) default ls) ≡ length ls
  unfolding line_lines lines_of
  one_for_each default [] = omega arith
  one_for_each default (l ∷ ls) =
      let alignment : Alignment = resolved (alignment_of l.head) default in
      omega (
        arith,
        length-append (line_lines u (Truncate column) default l) (all_lines u (Truncate column) default ls),
        length-map (truncate u column alignment (glyphs_of u.ambiguous l)) (aligned alignment),
        truncate-one alignment (glyphs_of u.ambiguous l),
        one_for_each default ls,
      )

  pub truncated_count : (default : Alignment) (text : List ℕ) → length (lines u (Truncate column) default text) ≡ length (lines_from 0 text)
  unfolding lines
  truncated_count default text = one_for_each default (lines_from 0 text)

module _ (n : Notice) (width : ℕ) (text : List ℕ) (count : ℕ) where
  pub unwrapped-count : (column : ℕ) → n.wrap ≡ Off column → 0 < width → count ≡ length (lines_from 0 text) → count ≡ length (notice_lines (settings_of n) text width)
  unfolding notice_lines
  unwrapped-count column e some c = rw e (c ∙ sym (truncated_count (rule_at n.ambiguous (Off column) width) column some n.alignment text))

  pub wrapped-count : (trim : Bool) → n.wrap ≡ On trim → count ≡ length (lines (rule_of n.ambiguous width trim) WordWrap n.alignment text) → count ≡ length (notice_lines (settings_of n) text width)
  unfolding notice_lines
  wrapped-count trim e c = rw e c

pub ruleset counted = (unwrapped-count, wrapped-count)

-- wrapped or not, a text has no more lines than records
lines-at-most : (a : AmbiguousWidth) (wrap : Wrap) (default : Alignment) (width : ℕ) (text : List ℕ) → 0 < width
    → length (lines (rule_at a wrap width) (method_of wrap) default text) ≤ length text
lines-at-most a (Off column) default width text some =
    omega (arith, truncated_count (rule_at a (Off column) width) column some default text, text-lines-few 0 text)
lines-at-most a (On trim) default width text some = lines-short (rule_of a width trim) default text

pub notice-lines-few : (s : TextSettings) (width : ℕ) (text : List ℕ) → 0 < width → length (notice_lines s text width) ≤ length text
unfolding notice_lines
notice-lines-few s width text some = lines-at-most s.ambiguous s.wrap s.alignment width text some
