-- Document 02, C-17: "At a limit of 1 or more every text line owns exactly one marked entry, empty lines included.": theorem
-- `one-mark-each` (proofs/Marks.antt) says so of the entries that an accepted call writes.
use Rattle.std.specs.Prelude.{ℕ, zero, suc, ◌≡◌, Bool, List, [], ◌∷◌, map, eqb, length, take, drop}
use Rattle.text.specs.Line.{TextLine, lines_from}
use Rattle.text.specs.Lists.{count_of}
use Rattle.line_composer.specs.declared.Method.TheVariants.{WordWrap}
use Rattle.line_composer.specs.Lines.{Line, line_lines}
use Rattle.entry.specs.Entry.{entry_mark}
use Rattle.list_lines.specs.Call.{Call, rule_for, lines_of, list_after}

-- the entries that an accepted call writes
unfoldable pub entries_of : Call → List ℕ
entries_of call = take (length (lines_of call)) (list_after call)

-- the text lines of a call, and the composed lines of one
abbrev pub text_lines : Call → List TextLine
text_lines call = lines_from 0 call.text

unfoldable pub composed_of : Call → TextLine → List Line
composed_of call line = line_lines (rule_for call) WordWrap call.default_alignment line

-- entries cut by text lines: each text line owns as many as it has composed lines
abbrev pub owned : Call → List TextLine → List ℕ → List (List ℕ)
owned call [] entries = []
owned call (line ∷ rest) entries =
    let own = length (composed_of call line) in
    take own entries ∷ owned call rest (drop own entries)

-- whether an entry is marked
abbrev pub is_marked : ℕ → Bool
is_marked entry = eqb (entry_mark entry) 1

-- "1 on the last composed line of each text line, 0 on others": the marks of a text line's n lines
abbrev pub last_only : ℕ → List ℕ
last_only zero = []
last_only (suc zero) = 1 ∷ []
last_only (suc (suc n)) = 0 ∷ last_only (suc n)

pub record OneMarkEach (call : Call) : Type 0 where
  -- every text line owns exactly one marked entry
  pub one_each : map (count_of is_marked) (owned call (text_lines call) (entries_of call)) ≡ map (λ (line : TextLine). 1) (text_lines call)
  -- it is the last that the text line owns
  pub last_each : map (map entry_mark) (owned call (text_lines call) (entries_of call)) ≡ map (λ (line : TextLine). last_only (length (composed_of call line))) (text_lines call)
  -- no other entry is marked
  pub as_many : count_of is_marked (entries_of call) ≡ length (text_lines call)
