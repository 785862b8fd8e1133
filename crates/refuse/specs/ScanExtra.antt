-- Not in the papers: the tests that are made of each title and of each record; `Causes` has those of the table.
use Rattle.std.specs.Prelude.{ℕ, Bool, not, ◌&&◌, ◌||◌, List, eqb, ltb, length}
use Rattle.text.specs.Record.{is_head, style_of, position_of, zeros_of}
use Rattle.text.specs.LinesExtra.{cut_lines}
use Rattle.text.specs.Lists.{some}
use Rattle.refuse.specs.declared.Ceilings.{Ceilings}
use Rattle.refuse.specs.Causes.{no_style}

-- cause 5 for one title, given its head and its number of glyphs
unfoldable pub title_wrong : Ceilings → ℕ → ℕ → Bool
title_wrong most head glyphs = ltb most.title_glyphs glyphs || (eqb (position_of head) 3 || not (eqb (zeros_of head) 0))

-- for a title given as its head and its records
abbrev pub cut_title_wrong : Ceilings → ℕ × List ℕ → Bool
cut_title_wrong most title = title_wrong most title.0 (length title.1)

-- cause 5 for all titles, as the loop over them finds it: too many, or a wrong one
unfoldable pub scan_wrong : Ceilings → List ℕ → Bool
scan_wrong most records = ltb most.titles (length (cut_lines records)) || some (cut_title_wrong most) (cut_lines records)

-- cause 6 for one record: a glyph whose style number isn't below the count
abbrev pub glyph_no_style : ℕ → ℕ → Bool
glyph_no_style count r = not (is_head r) && no_style count (style_of r)
