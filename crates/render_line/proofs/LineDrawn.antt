-- A composed line on its row: its glyphs are written on the borrowed slice of cells from its start column on.
use Prim.Native.Nat.{ℕ, ◌+◌, ◌-◌, ◌≤◌, ◌<◌}
use mathlib.Core.Path.{◌≡◌, sym, ap, ◌∙◌}
use mathlib.Core.Logic.{dite}
use mathlib.Core.List.{List, ◌++◌}
use native.Mathlib.Decide.{dec_lt}
use native.Mathlib.Nat.{add-zero}
use native.Mathlib.Omega.{arith}
use lib.ListN.{length, take, drop}
use lib.Seq.{slice, take-add, drop_at, length-take-le}
use Rattle.text.specs.Line.{Glyph, numbered, total, starts_from}
use Rattle.wrapping.specs.declared.Rule.{Rule}
use Rattle.wrapping.specs.Wrapping.{not_over_wide}
use Rattle.buffer.specs.Drawing.{changed}
use Rattle.buffer.specs.PartsExtra.{windowed}
use Rattle.buffer.proofs.Changed.{changed-same, part_length, part-borrowed}
use Rattle.buffer.proofs.Within.{within-inside, within-before}
use Rattle.line_composer.specs.declared.WrappedLine.{WrappedLine}
use Rattle.line_composer.specs.Lines.{Line, line_at}
use Rattle.render_glyphs.specs.declared.GlyphCounts.{GlyphCounts}
use Rattle.render_glyphs.specs.RenderGlyphs.{glyphs_on}
use Rattle.render_glyphs.specs.WritingExtra.{starts_of, Wrote}
use Rattle.render_line.specs.RenderLine.{line_offset, drawn_starts, line_on, placed_in, clipped_in}
use Rattle.render_line.proofs.Moving.{placed_same, clipped-same, glyphs-same, glyphs-before}

-- a borrowed `&text[first..end]` is a slice of the text
slice-borrowed : (first end : ℕ) (text : List ℕ) → first ≤ end → end ≤ length text → take (end - first) (drop first text) ≡ slice first end text
slice-borrowed first end text p q =
    let e : first + (end - first) ≡ end = omega arith in
    sym (ap (drop first) (rw e at (take-add first (end - first) text))
    ∙ drop_at (take first text) (take (end - first) (drop first text)) first (length-take-le first text (omega arith)))

-- Inputs of `write_line`.
pub record LineCall : Type 0 where
  pub styles : List ℕ
  pub style : ℕ
  pub rule : Rule
  pub text : List ℕ
  pub row : List ℕ
  pub line : WrappedLine

abbrev pub line_call : List ℕ → ℕ → Rule → List ℕ → List ℕ → WrappedLine → LineCall
line_call styles style rule text row line = record { styles = styles; style = style; rule = rule; text = text; row = row; line = line }

-- State of `write_line` after `write_glyphs`: the line's records are within the text, its width and start column are those of the
-- rule, and `part` is the slice of the row from the start column on, with the glyphs written.
pub record LineWritten (v : LineCall) (start : ℕ) (part : List ℕ) (counts : GlyphCounts) : Type 0 where
  pub ordered : v.line.first ≤ v.line.end
  pub within : v.line.end ≤ length v.text
  pub width : v.line.width ≡ total (line_at v.rule v.text v.line).glyphs
  pub offset : start ≡ line_offset v.line.alignment (length v.row) v.line.width
  pub low : start ≤ length v.row
  pub wrote : Wrote v.styles v.style (starts_of v.rule 0 (take (v.line.end - v.line.first) (drop v.line.first v.text)))
      (take (length v.row - start) (drop start v.row)) part counts

module _ (v : LineCall) (start : ℕ) (part : List ℕ) (counts : GlyphCounts) (w : LineWritten v start part counts) where
  abbrev line : WrappedLine
  line = v.line

  abbrev area : ℕ
  area = length v.row

  abbrev room : ℕ
  room = area - start

  abbrev records : List ℕ
  records = take (line.end - line.first) (drop line.first v.text)

  abbrev borrowed : List ℕ
  borrowed = take room (drop start v.row)

  abbrev composed : Line
  composed = line_at v.rule v.text line

  edge : start + room ≡ area
  edge = omega (arith, w.low)

  borrowed-length : length borrowed ≡ room
  borrowed-length = part_length start area v.row w.low (omega arith)

  starts-drawn : starts_from (start + 0) (not_over_wide v.rule (numbered v.rule.ambiguous line.first records)) ≡ drawn_starts area composed
  unfolding drawn_starts line_at
  starts-drawn = rw (add-zero, w.offset, w.width, slice-borrowed line.first line.end v.text w.ordered w.within)

  pub line-placed : counts.placed ≡ placed_in area composed
  unfolding placed_in
  line-placed =
      (rw borrowed-length at w.wrote.is-placed)
      ∙ (rw (edge, starts-drawn) at (sym (placed_same start room v.rule line.first 0 0 records)))

  pub line-clipped : counts.clipped ≡ clipped_in area composed
  unfolding clipped_in
  line-clipped =
      (rw borrowed-length at w.wrote.is-clipped)
      ∙ (rw (edge, starts-drawn) at (sym (clipped-same start room v.rule line.first 0 0 records)))

  -- the glyphs written on the slice give the cell of the rule in column i of the row
  abbrev CellAgrees : ℕ → ℕ → Type 0
  CellAgrees i cell =
      windowed start area (glyphs_on v.styles v.style room (starts_of v.rule 0 records)) i cell
      ≡ line_on v.styles v.style area composed i cell

  cell_before_lem : (i cell : ℕ) → i < start → CellAgrees i cell
  unfolding line_on
  cell_before_lem i cell p =
      let glyphs : List Glyph = not_over_wide v.rule (numbered v.rule.ambiguous line.first records) in
      simp (within-before start area i p)
      (sym (rw starts-drawn at (glyphs-before v.styles v.style area (start + 0) glyphs i cell (omega arith))))

  cell_borrowed : (i cell : ℕ) → i < area → start ≤ i → CellAgrees i cell
  unfolding line_on
  cell_borrowed i cell h p =
      let e : start + (i - start) ≡ i = omega arith in
      simp (within-inside start area i p h)
      (rw (edge, starts-drawn, e) at (sym (glyphs-same start room v.rule line.first 0 0 records v.styles v.style (i - start) cell)))

  pub line-drawn : take start v.row ++ (part ++ drop room (drop start v.row)) ≡ changed (line_on v.styles v.style area composed) v.row
  line-drawn =
      part-borrowed (glyphs_on v.styles v.style room (starts_of v.rule 0 records)) start area v.row part w.low (omega arith) (rw borrowed-length at w.wrote.cells)
      ∙ changed-same _ _ v.row (λ i cell h. dite (dec_lt i start) (cell_before_lem i cell) (λ n. cell_borrowed i cell h (omega (arith, n))))
