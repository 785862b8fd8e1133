-- Not in the papers: the printed lines (Output) of composed lines that are packed in entries.
use Rattle.std.specs.Prelude.{ℕ, List, [], ◌∷◌, ◌++◌}
use Rattle.entry.specs.Entry.{entry_first, entry_end, entry_width, entry_alignment, entry_mark}
use Rattle.listlines_output.specs.Output.{fields_text}

-- the line of an entry
unfoldable pub entry_text : ℕ → List ℕ
entry_text entry = fields_text (entry_first entry) (entry_end entry) (entry_width entry) (entry_alignment entry) (entry_mark entry)

abbrev pub entries_text : List ℕ → List ℕ
entries_text [] = []
entries_text (entry ∷ rest) = entry_text entry ++ entries_text rest
