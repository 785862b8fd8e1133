-- Document 01, 'Packed fields', 'Wrapping' and 'After the pages': the composed lines of a text, and the glyphs that wrapping
-- skips and drops.
use Rattle.std.specs.Prelude.{ℕ, ◌+◌, List, [], ◌∷◌, ◌++◌, map}
use Rattle.std.proofs.Math.Seq.{slice}
use Rattle.text.specs.declared.Alignment.{Alignment}
use Rattle.text.specs.Record.{alignment_of}
use Rattle.text.specs.Alignment.{resolved}
use Rattle.text.specs.Line.{Glyph, TextLine, numbered, lines_from, glyphs_of, total}
use Rattle.wrapping.specs.declared.Rule.{Rule}
use Rattle.wrapping.specs.Wrapping.{wrap, over_wides, not_over_wide}
use Rattle.line_truncator.specs.Truncation.{truncate}
use Rattle.line_composer.specs.declared.Method.{Method}
use Rattle.line_composer.specs.declared.Method.TheVariants.{WordWrap, Truncate}
use Rattle.line_composer.specs.declared.WrappedLine.{WrappedLine}

-- a composed line: its text line's alignment, resolved, and its glyphs
pub record Line : Type 0 where
  pub alignment : Alignment
  pub glyphs : List Glyph

abbrev pub aligned : Alignment → List Glyph → Line
aligned alignment glyphs = record { alignment = alignment; glyphs = glyphs }

-- the glyphs of each line of one text line, wrapped, or truncated and scrolled right by `column`
unfoldable pub lines_of : Rule → Method → Alignment → List Glyph → List (List Glyph)
lines_of u WordWrap alignment gs = (wrap u gs).lines
lines_of u (Truncate column) alignment gs = truncate u column alignment gs

-- the composed lines of one text line
unfoldable pub line_lines : Rule → Method → Alignment → TextLine → List Line
line_lines u method default line =
    let alignment = resolved (alignment_of line.head) default in
    map (aligned alignment) (lines_of u method alignment (glyphs_of u.ambiguous line))

-- the composed lines of a list of text lines
abbrev pub all_lines : Rule → Method → Alignment → List TextLine → List Line
all_lines u method default [] = []
all_lines u method default (line ∷ rest) = line_lines u method default line ++ all_lines u method default rest

-- the composed lines of a text
unfoldable pub lines : Rule → Method → Alignment → List ℕ → List Line
lines u method default text = all_lines u method default (lines_from 0 text)

-- the glyphs that step 1 skips, if the text is wrapped
abbrev pub all_skipped : Rule → List TextLine → List Glyph
all_skipped u [] = []
all_skipped u (line ∷ rest) = over_wides u (glyphs_of u.ambiguous line) ++ all_skipped u rest

unfoldable pub skipped : Rule → List ℕ → List Glyph
skipped u text = all_skipped u (lines_from 0 text)

-- the glyphs that wrapping drops
abbrev pub all_dropped : Rule → List TextLine → List Glyph
all_dropped u [] = []
all_dropped u (line ∷ rest) = (wrap u (glyphs_of u.ambiguous line)).dropped ++ all_dropped u rest

unfoldable pub dropped : Rule → List ℕ → List Glyph
dropped u text = all_dropped u (lines_from 0 text)

-- "First and end are record numbers, end one past, both 0 where the line holds no glyph."
abbrev pub first_of : List Glyph → ℕ
first_of [] = 0
first_of (g ∷ gs) = g.number

abbrev pub end_of : List Glyph → ℕ
end_of [] = 0
end_of (g ∷ []) = g.number + 1
end_of (g ∷ h ∷ gs) = end_of (h ∷ gs)

-- first, end, width and alignment of a composed line
unfoldable pub wrapped_line_of : Line → WrappedLine
wrapped_line_of line =
    record {
      first = first_of line.glyphs;
      end = end_of line.glyphs;
      width = total line.glyphs;
      alignment = line.alignment;
    }

-- "Its glyphs are those from first to end that are no wider than the limit.": the line with these fields, read from the text. It
-- is the composed line by the theorem `read_back`.
unfoldable pub line_at : Rule → List ℕ → WrappedLine → Line
line_at u text c =
    record {
      alignment = c.alignment;
      glyphs = not_over_wide u (numbered u.ambiguous c.first (slice c.first c.end text));
    }
