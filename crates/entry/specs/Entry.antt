-- Document 01, 'Packed fields': the entry of a composed line, most significant bit first. Document 02, C-17: its mark.
use Rattle.std.specs.Prelude.{ℕ, ◌+◌, ◌-◌, ◌*◌, ◌/◌, ◌%◌, ◌^◌, Bool, cond}
use Rattle.text.specs.Alignment.{alignment_number}
use Rattle.line_composer.specs.declared.WrappedLine.{WrappedLine}
use Rattle.line_composer.specs.Lines.{Line, wrapped_line_of}
use Rattle.line_composer.specs.Marks.{MarkedLine}

-- "Composed line, 64 bits: first 15 | end 15 | width 16 | alignment 2 (resolved) | 16 zeros."
unfoldable pub entry_packed : WrappedLine → ℕ
entry_packed c = c.first * 2 ^ 49 + c.end * 2 ^ 34 + c.width * 2 ^ 18 + alignment_number c.alignment * 2 ^ 16

-- without the mark: document 01's entry of a composed line
abbrev pub entry_of : Line → ℕ
entry_of line = entry_packed (wrapped_line_of line)

-- C-17: "The first of the 16 zero bits of a composed line becomes a mark: 1 on the last composed line of each text line, 0 on others."
abbrev pub mark_number : Bool → ℕ
mark_number mark = cond mark 1 0

unfoldable pub entry_marked : WrappedLine → Bool → ℕ
entry_marked c mark = entry_packed c + mark_number mark * 2 ^ 15

-- entry of a composed line with its mark
unfoldable pub listed : MarkedLine → ℕ
listed m = entry_marked (wrapped_line_of m.line) m.mark

-- fields of an entry
abbrev pub entry_first : ℕ → ℕ
entry_first e = e / 2 ^ 49

abbrev pub entry_end : ℕ → ℕ
entry_end e = e / 2 ^ 34 % 2 ^ 15

abbrev pub entry_width : ℕ → ℕ
entry_width e = e / 2 ^ 18 % 2 ^ 16

abbrev pub entry_alignment : ℕ → ℕ
entry_alignment e = e / 2 ^ 16 % 2 ^ 2

abbrev pub entry_mark : ℕ → ℕ
entry_mark e = e / 2 ^ 15 % 2

-- the entry with mark 0
abbrev pub unmarked : ℕ → ℕ
unmarked e = e - entry_mark e * 2 ^ 15
