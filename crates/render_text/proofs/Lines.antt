-- The lines in an area: one law for the drawing, one for the counts.
use Prim.Native.Nat.{ℕ}
use mathlib.Core.Path.{◌≡◌}
use mathlib.Core.List.{List, [], ◌∷◌}
use Rattle.layout.specs.declared.Rect.{Rect}
use Rattle.buffer.specs.declared.Ink.TheVariants.{Style}
use Rattle.buffer.specs.Drawing.{drawn, over, style_at}
use Rattle.buffer.specs.InkExtra.{inked}
use Rattle.buffer.proofs.Order.{first_then}
use Rattle.line_composer.specs.Lines.{lines}
use Rattle.render_lines.specs.declared.DrawCounts.{DrawCounts}
use Rattle.render_lines.specs.declared.TextOptions.{TextOptions}
use Rattle.render_lines.specs.Rows.{text_on, rows_drawn, placed_on, clipped_on}
use Rattle.render_text.specs.declared.TextSettings.{TextSettings}
use Rattle.render_text.specs.SettingsExtra.{text_options_of, lines_on, lines_counted}

all-counts : (r : DrawCounts) (rows placed clipped : ℕ) → r.rows ≡ rows → r.placed ≡ placed → r.clipped ≡ clipped
    → r ≡ record { rows = rows; placed = placed; clipped = clipped }
all-counts r rows placed clipped a b c = rw (← a, ← b, ← c)

module _ (columns : ℕ) (styles text : List ℕ) (n : TextSettings) (inner : Rect) (cells : List ℕ) where
  pub lines-drawn : (style : ℕ) (first last : List ℕ) (s : TextOptions)
      → style ≡ style_at styles n.style → first ≡ drawn columns (over inner (inked (Style style))) cells → s ≡ text_options_of n inner.width
      → last ≡ drawn columns (text_on styles s.style (lines s.rule s.method s.default_alignment text) inner s.scroll) first
      → last ≡ drawn columns (lines_on styles text n inner) cells
  unfolding lines_on text_options_of inked
  lines-drawn style first last s e p k q = first_then columns _ (_ ∷ []) cells first last (rw e at p) (rw k at q)

  pub lines-counted : (r : DrawCounts) (s : TextOptions) → s ≡ text_options_of n inner.width
      → r.rows ≡ rows_drawn (lines s.rule s.method s.default_alignment text) inner s.scroll
      → r.placed ≡ placed_on (lines s.rule s.method s.default_alignment text) inner s.scroll
      → r.clipped ≡ clipped_on (lines s.rule s.method s.default_alignment text) inner s.scroll
      → r ≡ lines_counted text n inner
  unfolding lines_counted text_options_of
  lines-counted r s k a b c = all-counts r _ _ _ (rw k at a) (rw k at b) (rw k at c)

pub ruleset lines-laws = (lines-drawn, lines-counted)
