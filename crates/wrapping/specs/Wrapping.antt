-- Document 01, 'Wrapping (reflow.rs, `WordWrapper`)': the lines of one text line, and the glyphs that it drops.
use Rattle.std.specs.Prelude.{ℕ, ◌+◌, ◌-◌, Bool, true, false, cond, not, ◌&&◌, ◌||◌, List, [], ◌∷◌, ◌++◌, eqb, leb, ltb, length, drop}
use Rattle.text.specs.Line.{Glyph, total}
use Rattle.wrapping.specs.declared.Rule.{Rule}

-- row, spaces and word, and "previous was solid"
pub record Pending : Type 0 where
  pub row : List Glyph
  pub spaces : List Glyph
  pub word : List Glyph
  pub solid : Bool

-- "For each text line start with row, spaces and word empty and 'previous was solid' false."
abbrev pub empty_pending : Pending
empty_pending = record { row = []; spaces = []; word = []; solid = false }

-- a list is empty if it has no glyph, whatever the widths
abbrev pub empty : {A : Type 0} → List A → Bool
empty [] = true
empty (x ∷ xs) = false

-- "A list's width is its sum.": `total`, in crate `text`.

-- Result of a step, or of all four, for a glyph: the lines emitted (none or one), the glyphs dropped, what is pending then, and
-- whether to "go to the next glyph" before the remaining steps.
pub record Step : Type 0 where
  pub lines : List (List Glyph)
  pub dropped : List Glyph
  pub pending : Pending
  pub done : Bool

-- emits no line, drops no glyph, and goes on to the remaining steps
abbrev pub silent : Pending → Step
silent s = record { lines = []; dropped = []; pending = s; done = false }

-- one step and, unless it goes to the next glyph, another
infixr 20 ◌then◌
unfoldable pub ◌then◌ : (Pending → Step) → (Pending → Step) → Pending → Step
(one then other) s =
    let now = one s in
    let later = other now.pending in
    cond now.done now
    (record {
      lines = now.lines ++ later.lines;
      dropped = now.dropped ++ later.dropped;
      pending = later.pending;
      done = later.done;
    })

-- 1. "If w exceeds the limit, skip it and change nothing else."
unfoldable pub is_over_wide : Rule → Glyph → Bool
is_over_wide u g = ltb u.limit g.width

-- 2. "Join if it is whitespace and previous was solid. Join also if row is empty and: trimming, word + w or spaces + w exceeds
-- the limit; not trimming, word + spaces + w does."
unfoldable pub must_join : Rule → Pending → Glyph → Bool
must_join u s g =
    (g.whitespace && s.solid)
    || (empty s.row
    && cond u.trim
    (ltb u.limit (total s.word + g.width) || ltb u.limit (total s.spaces + g.width))
    (ltb u.limit (total s.word + total s.spaces + g.width)))

-- "To join, append spaces to row if row isn't empty or trim is off, then append word; empty both."
unfoldable pub takes_spaces : Rule → Pending → Bool
takes_spaces u s = not (empty s.row) || not u.trim

unfoldable pub gathered : Rule → Pending → List Glyph
gathered u s = (s.row ++ cond (takes_spaces u s) s.spaces []) ++ s.word

unfoldable pub joined : Rule → Pending → Pending
joined u s = record { row = gathered u s; spaces = []; word = []; solid = s.solid }

-- "Spaces never appended are dropped.": those that a join drops
unfoldable pub unjoined : Rule → Pending → List Glyph
unjoined u s = cond (takes_spaces u s) [] s.spaces

-- step 2
unfoldable pub join_step : Rule → Glyph → Pending → Step
join_step u g s =
    cond (must_join u s g) (record { lines = []; dropped = unjoined u s; pending = joined u s; done = false }) (silent s)

-- 3. "If row is at least the limit, or w > 0 and row + spaces + word is at least the limit:"
unfoldable pub full : Rule → Pending → Glyph → Bool
full u s g =
    leb u.limit (total s.row)
    || (ltb 0 g.width && leb u.limit (total s.row + total s.spaces + total s.word))

-- "emit row, leaving it empty, then drop spaces from the front while each fits in (limit less the emitted width, held at 0) less
-- those dropped." `fitting` are those dropped, `after_fitting` those remaining.
abbrev pub fitting : ℕ → List Glyph → List Glyph
fitting room [] = []
fitting room (g ∷ gs) = cond (leb g.width room) (g ∷ fitting (room - g.width) gs) []

abbrev pub after_fitting : ℕ → List Glyph → List Glyph
after_fitting room gs = drop (length (fitting room gs)) gs

unfoldable pub emptied : Rule → Pending → Pending
emptied u s =
    record {
      row = [];
      spaces = after_fitting (u.limit - total s.row) s.spaces;
      word = s.word;
      solid = s.solid;
    }

-- "After such an emit, if the glyph is whitespace and spaces is now empty, drop it and go to the next glyph, 'previous'
-- unchanged." The state is the one after the emit.
unfoldable pub drops : Pending → Glyph → Bool
drops s g = g.whitespace && empty s.spaces

-- step 3
unfoldable pub emit_step : Rule → Glyph → Pending → Step
emit_step u g s =
    cond (full u s g)
    (record {
      lines = s.row ∷ [];
      dropped = fitting (u.limit - total s.row) s.spaces ++ cond (drops (emptied u s) g) (g ∷ []) [];
      pending = emptied u s;
      done = drops (emptied u s) g;
    })
    (silent s)

-- 4. "Append it to spaces or word; previous is solid if it isn't whitespace."
unfoldable pub appended : Pending → Glyph → Pending
appended s g =
    cond g.whitespace
    (record { row = s.row; spaces = s.spaces ++ (g ∷ []); word = s.word; solid = false })
    (record { row = s.row; spaces = s.spaces; word = s.word ++ (g ∷ []); solid = true })

-- step 4
unfoldable pub append_step : Glyph → Pending → Step
append_step g s = silent (appended s g)

-- "For each glyph of width w:" the four steps in their order
unfoldable pub step : Rule → Pending → Glyph → Step
step u s g = cond (is_over_wide u g) (silent s) ((join_step u g then emit_step u g then append_step g) s)

-- "At the line's end: if row and word are empty, spaces isn't and trim is on, emit an empty line. Append spaces to row if row
-- isn't empty or trim is off; append word; emit row if not empty."
unfoldable pub last_lines : Rule → Pending → List (List Glyph)
last_lines u s =
    cond (empty s.row && empty s.word && not (empty s.spaces) && u.trim) ([] ∷ []) []
    ++ cond (empty (gathered u s)) [] (gathered u s ∷ [])

-- "If the line has emitted nothing, emit an empty line."
abbrev pub at_least_one : List (List Glyph) → List (List Glyph)
at_least_one [] = [] ∷ []
at_least_one (line ∷ lines) = line ∷ lines

-- the lines of a text line, and the glyphs that it drops
pub record Wrapped : Type 0 where
  pub lines : List (List Glyph)
  pub dropped : List Glyph

-- the result for the remaining glyphs from a state, and the line's end. "Spaces never appended are dropped."
abbrev pub wrap_from : Rule → Pending → List Glyph → Wrapped
wrap_from u s [] = record { lines = last_lines u s; dropped = unjoined u s }
wrap_from u s (g ∷ gs) =
    let now = step u s g in
    let later = wrap_from u now.pending gs in
    record { lines = now.lines ++ later.lines; dropped = now.dropped ++ later.dropped }

-- the whole text line. "Limit 0 gives no line."
unfoldable pub wrap : Rule → List Glyph → Wrapped
wrap u gs =
    let all = wrap_from u empty_pending gs in
    cond (eqb u.limit 0) (record { lines = []; dropped = [] }) (record { lines = at_least_one all.lines; dropped = all.dropped })

-- the glyphs of a text line that step 1 skips, and the others; not meaningful at limit 0, where no step is taken
abbrev pub over_wides : Rule → List Glyph → List Glyph
over_wides u [] = []
over_wides u (g ∷ gs) = cond (is_over_wide u g) (g ∷ over_wides u gs) (over_wides u gs)

abbrev pub not_over_wide : Rule → List Glyph → List Glyph
not_over_wide u [] = []
not_over_wide u (g ∷ gs) = cond (is_over_wide u g) (not_over_wide u gs) (g ∷ not_over_wide u gs)
