-- `check_records::glyphs_without_style` meets its contract.
use Rattle.std.specs.Prelude.{◌≡◌, count_by, take}
use Rattle.refuse.specs.ScanExtra.{glyph_no_style}
use Rattle.check_records.proofs.glyphs_without_style.Given as goal

abbrev pub invariant-loop-word : goal.invariant-loop-word
invariant-loop-word l = l.wrong ≡ count_by (glyph_no_style l.count) (take l.word-index l.records)
