-- Not in the papers: intermediate results of the functions; `Notice` of crate `paragraph` has the rules.
use Rattle.std.specs.Prelude.{ℕ, List, [], ◌∷◌}
use Rattle.cell.specs.Cell.{styled}
use Rattle.layout.specs.declared.Rect.{Rect}
use Rattle.buffer.specs.Drawing.{Drawing, over, in_order, style_at}
use Rattle.line_composer.specs.Wrap.{method_of, rule_at}
use Rattle.render_lines.specs.declared.DrawCounts.{DrawCounts}
use Rattle.render_lines.specs.declared.TextOptions.{TextOptions}
use Rattle.render_lines.specs.DrawingExtra.{lines_for}
use Rattle.render_lines.specs.Rows.{text_on, rows_drawn, placed_on, clipped_on}
use Rattle.render_text.specs.declared.TextSettings.{TextSettings}

-- the options of `render_lines`, at a width
unfoldable pub text_options_of : TextSettings → ℕ → TextOptions
text_options_of n width =
    record {
      rule = rule_at n.ambiguous n.wrap width;
      method = method_of n.wrap;
      default_alignment = n.alignment;
      style = n.text_style;
      scroll = n.scroll;
    }

-- the drawing in a non-empty area: the notice's style, then its lines
unfoldable pub lines_on : List ℕ → List ℕ → TextSettings → Rect → Drawing
lines_on styles text n inner =
    in_order
    (over inner (styled (style_at styles n.style))
    ∷ text_on styles n.text_style (lines_for (text_options_of n inner.width) text) inner n.scroll
    ∷ [])

-- the counts in a non-empty area
unfoldable pub lines_counted : List ℕ → TextSettings → Rect → DrawCounts
lines_counted text n inner =
    let composed = lines_for (text_options_of n inner.width) text in
    record {
      rows = rows_drawn composed inner n.scroll;
      placed = placed_on composed inner n.scroll;
      clipped = clipped_on composed inner n.scroll;
    }
