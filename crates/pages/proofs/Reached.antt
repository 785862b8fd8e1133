-- reached_16: every page's scroll row fits in 16 bits, since each page starts with a line and a text has no more lines than
-- records.
-- text_accepted: the tally at the inner width accepts the text of every accepted notice.
use Prim.Native.Nat.{ℕ, ◌+◌, ◌-◌, ◌*◌, ◌<◌, ◌≤◌}
use mathlib.Core.Path.{◌≡◌, ap, ◌∙◌}
use mathlib.Core.List.{List}
use native.Mathlib.Nat.{div-add-mod', mod-lt, mul-le-mul_right}
use native.Mathlib.Omega.{arith}
use borrow.Author.Tests.{le-ltb}
use lib.ListN.{length}
use Rattle.std.specs.Prelude.{Ok}
use Rattle.text.specs.declared.Alignment.TheVariants.{Left}
use Rattle.layout.specs.declared.Rect.{Rect}
use Rattle.layout.specs.Rect.{meet}
use Rattle.buffer.specs.Drawing.{area_of}
use Rattle.refuse.specs.declared.Refusal.TheVariants.{TextLength, TextHeads}
use Rattle.refuse.specs.Causes.{most_accepted, screen_causes, text_causes, line_causes}
use Rattle.refuse.proofs.Calls.{no_cause}
use Rattle.block.specs.declared.Block.{Block}
use Rattle.block.specs.Inner.{inner_of}
use Rattle.wrapping.specs.Rule.{rule_of}
use Rattle.line_composer.specs.declared.Method.TheVariants.{WordWrap}
use Rattle.line_composer.specs.Lines.{lines}
use Rattle.line_composer.proofs.Bounds.{lines-short}
use Rattle.tally_lines.specs.declared.LineCounts.{LineCounts}
use Rattle.tally_lines.specs.TallyingExtra.{line_counts}
use Rattle.tally.specs.Call as tally
use Rattle.tally.proofs.EveryGlyph.{default-alignment_irrelevant}
use Rattle.paragraph.specs.Notice.{notice_lines, inner_area_of}
use Rattle.draw_notice.specs.Call.{Call, causes_of, verdict_of, screen_in}
use Rattle.draw_notice.proofs.Answers.{text-sound}
use Rattle.draw_notice.proofs.Pair.{accepted-whole}
use Rattle.pages.specs.Pages.{inner_area, composed_lines, page_count, pages_of, scroll_of}
use Rattle.pages.specs.Reading.{WrappedNotice, pages_tally}
use Rattle.pages.proofs.Screen.{screen_sized, inner-some}

-- the first row of each page has a line
pub page-starts : (n h page : ℕ) → page < page_count n h → 0 < h → page * h < n
page-starts n h page there some =
    omega (arith, div-add-mod' (n + (h - 1)) h, mod-lt (n + (h - 1)) some, mul-le-mul_right h there)

-- an inner area is no wider than its area
inner-narrow : (b : Block) (titles : List ℕ) (area : Rect) → (inner_of b titles area).width ≤ area.width
unfolding inner_of
inner-narrow b titles area = omega arith

module _ (i : Call) (w : WrappedNotice i) where
  pub text-short : length i.text ≤ 16384
  text-short = (text-sound i (accepted-whole i w.accepted)).short

  pub few_columns : (inner_area i).width ≤ 512
  unfolding inner_area inner_area_of
  few_columns =
      omega (
        arith,
        inner-narrow i.notice.block i.titles (meet i.area (area_of (screen_in i))),
        (screen_sized i w).most_columns,
      )

  pub text_accepted : tally.verdict_of (pages_tally i w.trim) ≡ Ok tt
  unfolding verdict_of causes_of screen_causes text_causes line_causes tally.verdict_of tally.causes_of
  text_accepted =
      let causes = causes_of most_accepted i in
      let whole = accepted-whole i w.accepted in
      rw (no_cause causes TextLength whole, no_cause causes TextHeads whole, le-ltb 4096 (inner_area i).width (omega (arith, few_columns)))

  -- the notice's lines are wrapped, and no more than the text's records
  pub wrapped-lines : composed_lines i ≡ lines (rule_of i.notice.ambiguous (inner_area i).width w.trim) WordWrap i.notice.alignment i.text
  unfolding composed_lines notice_lines
  wrapped-lines = rw w.wrapped

  -- as many as with default alignment left
  pub left-lines : length (composed_lines i) ≡ length (lines (rule_of i.notice.ambiguous (inner_area i).width w.trim) WordWrap Left i.text)
  unfolding line_counts
  left-lines =
      ap length wrapped-lines
      ∙ ap (λ (c : LineCounts). c.lines) (default-alignment_irrelevant (rule_of i.notice.ambiguous (inner_area i).width w.trim) i.text i.notice.alignment Left)

  pub few-lines : length (composed_lines i) ≤ 16384
  few-lines = rw wrapped-lines (omega (arith, text-short, lines-short (rule_of i.notice.ambiguous (inner_area i).width w.trim) i.notice.alignment i.text))

  pub reached_16 : (page : ℕ) → page < pages_of i → scroll_of i page < 65536
  unfolding pages_of
  reached_16 page there =
      omega (arith, page-starts (length (composed_lines i)) (inner_area i).height page there (inner-some i w).1, few-lines)
