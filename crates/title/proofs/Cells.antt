-- Cells that a title doesn't change: those of other rows, and all if its area has no column.
use Prim.Native.Nat.{ℕ, ◌≤◌}
use mathlib.Core.Path.{◌≡◌, ap, ◌∙◌}
use mathlib.Core.Bool.{false}
use mathlib.Core.Logic.{inl, inr, dite}
use mathlib.Core.List.{List}
use native.Mathlib.Decide.{dec_lt}
use native.Mathlib.Omega.{arith}
use Rattle.text.specs.declared.Alignment.{Alignment}
use Rattle.text.specs.Line.{Glyph}
use Rattle.layout.specs.declared.Rect.{Rect}
use Rattle.layout.specs.Rect.{right_of, contains}
use Rattle.buffer.specs.Drawing.{inside}
use Rattle.buffer.proofs.Over.{over-outside, inside-outside}
use Rattle.buffer.proofs.Within.{cell_outside}
use Rattle.title.specs.Title.{title_line, title_in}

module _ (styles : List ℕ) (style : ℕ) (area : Rect) (alignment : Alignment) (glyphs : List Glyph) (column row cell : ℕ) where
  abbrev line : ℕ → ℕ
  line = inside area (λ column row. title_line styles alignment area.width glyphs column) column row

  -- a cell outside the title's area is unchanged
  outside-unchanged : contains area column row ≡ false → title_in styles style area alignment glyphs column row cell ≡ cell
  unfolding title_in
  outside-unchanged outside = ap line (over-outside area _ column row cell outside) ∙ inside-outside area _ column row cell outside

  pub nothing-drawn : area.width ≡ 0 → title_in styles style area alignment glyphs column row cell ≡ cell
  nothing-drawn none =
      outside-unchanged
      (dite (dec_lt column area.x)
      (λ p. cell_outside _ _ _ _ column row (inl p))
      (λ n. let p : right_of area ≤ column = omega (arith, n) in cell_outside _ _ _ _ column row (inr (inl p))))

  pub other_rows : area.height ≡ 1 → (row ≡ area.y → ⊥) → title_in styles style area alignment glyphs column row cell ≡ cell
  other_rows high other =
      outside-unchanged
      (dite (dec_lt row area.y)
      (λ p. cell_outside _ _ _ _ column row (inr (inr (inl p))))
      (λ n. cell_outside _ _ _ _ column row (inr (inr (inr (omega (arith, n, other)))))))
