-- unwrapped_unclipped: drawing an unwrapped text clips no glyph, since no line is wider than its area.
use Prim.Native.Nat.{ℕ, ◌+◌, ◌≤◌}
use mathlib.Core.Path.{◌≡◌, refl, ap}
use mathlib.Core.Bool.{false}
use mathlib.Core.List.{List, [], ◌∷◌, map}
use native.Mathlib.Omega.{arith}
use lib.Dec.{eqb}
use lib.ListN.{drop}
use Rattle.std.specs.Prelude.{Ok, Err}
use Rattle.text.specs.declared.Alignment.{Alignment}
use Rattle.text.specs.Record.{alignment_of}
use Rattle.text.specs.Alignment.{resolved}
use Rattle.text.specs.Line.{Glyph, TextLine, lines_from, glyphs_of, total, starts_from}
use Rattle.text.specs.Lists.{count_of}
use Rattle.text.proofs.Bools.{cond_cases}
use Rattle.layout.specs.declared.Rect.{Rect}
use Rattle.layout.specs.Rect.{meet, is_empty}
use Rattle.buffer.specs.Drawing.{area_of}
use Rattle.refuse.specs.Refusal.{unless_refused, Verdict}
use Rattle.wrapping.specs.declared.Rule.{Rule}
use Rattle.wrapping.specs.Rule.{rule_of}
use Rattle.line_truncator.specs.Truncation.{offset_of, truncate}
use Rattle.line_truncator.proofs.Truncated.{truncated_narrow}
use Rattle.line_composer.specs.declared.Method.TheVariants.{Truncate}
use Rattle.line_composer.specs.declared.Wrap.TheVariants.{Off}
use Rattle.line_composer.specs.Lines.{Line, aligned, lines_of, line_lines, all_lines, lines}
use Rattle.line_composer.specs.Places.{is_clipped}
use Rattle.render_line.specs.RenderLine.{line_offset, drawn_starts, clipped_in}
use Rattle.render_lines.specs.declared.DrawCounts.{DrawCounts}
use Rattle.render_lines.specs.Rows.{lines_drawn, sum_of, clipped_on}
use Rattle.render_lines.proofs.Bounds.{sum-append, sum-take, sum_drop}
use Rattle.render_text.specs.declared.TextSettings.{TextSettings}
use Rattle.paragraph.specs.Notice.{notice_lines, inside_counts, no_draw_counts}
use Rattle.paragraph.specs.Apart.{paragraph_counts}
use Rattle.draw_text.specs.Call.{Call, verdict_of, screen_in, rows_of, counts_of}
use Rattle.pages.proofs.Offset.{offset-fits}
use Rattle.pages.proofs.Placed.{within-area}

-- ---- a line no wider than the area

glyphs_unclipped : (area start : ℕ) (gs : List Glyph) → start + total gs ≤ area → count_of (is_clipped area) (starts_from start gs) ≡ 0
unfolding is_clipped
glyphs_unclipped area start [] fits = refl
glyphs_unclipped area start (g ∷ gs) fits =
    rw ((within-area area start g.width (omega arith)).1, glyphs_unclipped area (start + g.width) gs (omega arith))

line_unclipped : (area : ℕ) (line : Line) → total line.glyphs ≤ area → clipped_in area line ≡ 0
unfolding clipped_in drawn_starts
line_unclipped area line fits =
    let width : ℕ = total line.glyphs in
    glyphs_unclipped area (line_offset line.alignment area width) line.glyphs (offset-fits line.alignment area width fits)

-- ---- the lines of an unwrapped text, in an area as wide as the limit

module _ (u : Rule) (column : ℕ) where
  truncated_unclipped : (a : Alignment) (gs : List Glyph) → sum_of (clipped_in u.limit) (map (aligned a) (truncate u column a gs)) ≡ 0
  unfolding truncate
  truncated_unclipped a gs =
      let shown = truncated_narrow u (offset_of column a) gs in
      cond_cases (λ (ls : List (List Glyph)). sum_of (clipped_in u.limit) (map (aligned a) ls) ≡ 0) (eqb u.limit 0) _ _
      (λ _. refl)
      (λ _. rw (line_unclipped u.limit (aligned a _) shown))

  all_unclipped : (default : Alignment) (ls : List TextLine) → sum_of (clipped_in u.limit) (all_lines u (Truncate column) default ls) ≡ 0
  unfolding line_lines lines_of
  all_unclipped default [] = refl
  all_unclipped default (line ∷ rest) =
      let count = clipped_in u.limit in
      let a : Alignment = resolved (alignment_of line.head) default in
      omega (
        arith,
        sum-append count (line_lines u (Truncate column) default line) (all_lines u (Truncate column) default rest),
        truncated_unclipped a (glyphs_of u.ambiguous line),
        all_unclipped default rest,
      )

  lines_unclipped : (default : Alignment) (text : List ℕ) → sum_of (clipped_in u.limit) (lines u (Truncate column) default text) ≡ 0
  unfolding lines
  lines_unclipped default text = all_unclipped default (lines_from 0 text)

-- ---- an unwrapped text in an area

module _ (n : TextSettings) (column : ℕ) (off : n.wrap ≡ Off column) (text : List ℕ) where
  unwrapped-lines : (width : ℕ) → notice_lines n text width ≡ lines (rule_of n.ambiguous width false) (Truncate column) n.alignment text
  unfolding notice_lines
  unwrapped-lines width = rw off

  drawn_unclipped : (inner : Rect) → clipped_on (notice_lines n text inner.width) inner n.scroll ≡ 0
  unfolding clipped_on lines_drawn
  drawn_unclipped inner =
      let count = clipped_in inner.width in
      let composed : List Line = notice_lines n text inner.width in
      omega (
        arith,
        sum-take count inner.height (drop n.scroll composed),
        sum_drop count n.scroll composed,
        ap (sum_of count) (unwrapped-lines inner.width),
        lines_unclipped (rule_of n.ambiguous inner.width false) column n.alignment text,
      )

  inside_unclipped : (inner : Rect) → (inside_counts text n inner).clipped ≡ 0
  unfolding inside_counts
  inside_unclipped inner = cond_cases (λ (c : DrawCounts). c.clipped ≡ 0) (is_empty inner) _ _ (λ _. refl) (λ _. drawn_unclipped inner)

-- a refused call has counts 0
unless_unclipped : (v : Verdict) (c : DrawCounts) → c.clipped ≡ 0 → (unless_refused v c no_draw_counts).clipped ≡ 0
unless_unclipped (Ok _) c none = none
unless_unclipped (Err why) c none = refl

-- Theorem `unwrapped_unclipped`: drawing an unwrapped text clips no glyph.
pub unwrapped_unclipped : (call : Call) (column : ℕ) → call.settings.wrap ≡ Off column → (counts_of call).clipped ≡ 0
unfolding counts_of rows_of paragraph_counts
unwrapped_unclipped call column off =
    unless_unclipped (verdict_of call) (rows_of call) (inside_unclipped call.settings column off call.text (meet call.area (area_of (screen_in call))))
