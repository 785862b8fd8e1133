-- Document 01, 'After the pages': `line_count` and `line_width`. Document 02, C-11: "every part that asks
-- for a width follows".
use Rattle.std.specs.Prelude.{ℕ, ◌+◌, max, cond, List, [], ◌∷◌, eqb, length}
use Rattle.text.specs.declared.Alignment.TheVariants.{Left}
use Rattle.text.specs.declared.AmbiguousWidth.{AmbiguousWidth}
use Rattle.text.specs.Line.{TextLine, lines_from, glyphs_of, total}
use Rattle.block.specs.declared.Block.{Block}
use Rattle.block.specs.declared.Space.{Space}
use Rattle.block.specs.Inner.{horizontal_space, vertical_space}
use Rattle.wrapping.specs.Rule.{rule_of}
use Rattle.line_composer.specs.declared.Wrap.{Wrap}
use Rattle.line_composer.specs.declared.Wrap.TheVariants.{Off, On}
use Rattle.line_composer.specs.declared.Method.TheVariants.{WordWrap}
use Rattle.line_composer.specs.Lines.{lines}

-- count of "composed lines (or text lines, unwrapped)" at a width; it doesn't depend on the default alignment, here left (theorem
-- `default-alignment_irrelevant` in `tally`)
unfoldable pub lines_at : AmbiguousWidth → Wrap → ℕ → List ℕ → ℕ
lines_at ambiguous (On trim) width text = length (lines (rule_of ambiguous width trim) WordWrap Left text)
lines_at ambiguous (Off column) width text = length (lines_from 0 text)

-- sum of "both numbers of" a space
abbrev pub both : Space → ℕ
both space = space.before + space.after

-- "`line_count` is 0 at width 0, else composed lines (or text lines, unwrapped) plus both numbers of `vertical_space`; its width
-- isn't reduced by the frame."
unfoldable pub line_count : AmbiguousWidth → Block → List ℕ → Wrap → ℕ → List ℕ → ℕ
line_count ambiguous b titles wrap width text = cond (eqb width 0) 0 (lines_at ambiguous wrap width text + both (vertical_space b titles))

-- width of "the widest line, over-wide glyphs included", 0 if there is none
abbrev pub widest : AmbiguousWidth → List TextLine → ℕ
widest ambiguous [] = 0
widest ambiguous (line ∷ rest) = max (total (glyphs_of ambiguous line)) (widest ambiguous rest)

-- "`line_width` is the widest line, over-wide glyphs included, plus both of `horizontal_space`."
unfoldable pub line_width : AmbiguousWidth → Block → List ℕ → ℕ
line_width ambiguous b text = widest ambiguous (lines_from 0 text) + both (horizontal_space b)
