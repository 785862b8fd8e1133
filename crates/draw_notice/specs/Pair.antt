-- Document 02, C-15: "The old combined call is withdrawn and its callers make the two in that order." The two calls of a notice: the cells
-- and counts that they leave, and which of them is refused.
use Rattle.std.specs.Prelude.{ℕ, ◌≡◌, true, List, [], ◌∷◌, eqb, Ok}
use Rattle.text.specs.Lists.{some}
use Rattle.refuse.specs.Refusal.{verdict_number}
use Rattle.render_lines.specs.declared.DrawCounts.{DrawCounts}
use Rattle.paragraph.specs.Notice.{settings_of}
use Rattle.inner.specs.Call.{inner_answer_rect}
use Rattle.draw_frame.specs.Call as frame
use Rattle.draw_text.specs.Call as text
use Rattle.draw_text.specs.Call.{draw_answer_counts}
use Rattle.draw_notice.specs.Call.{Call, verdict_of, counts_of, cells_after}

-- the frame call of a notice
abbrev pub frame_call : Call → frame.Call
frame_call call =
    frame.call_of call.columns call.rows call.cells call.styles call.titles call.notice.ambiguous call.area call.notice.style call.notice.block

-- the text call of "the same notice", "the cells left alone between", "into the area it answered"
abbrev pub text_call : Call → text.Call
text_call call =
    let framed = frame_call call in
    text.call_of call.columns call.rows (frame.cells_after framed) call.styles call.text (inner_answer_rect (frame.answer_of framed)) (settings_of call.notice)

-- the cells after both, and the counts that the text call answers
unfoldable pub pair_cells : Call → List ℕ
pair_cells call = text.cells_after (text_call call)

unfoldable pub pair_counts : Call → DrawCounts
pair_counts call = draw_answer_counts (text.answer_of (text_call call))

-- "Where both are accepted"
pub record BothAccepted (call : Call) : Type 0 where
  pub frame_accepted : frame.verdict_of (frame_call call) ≡ Ok tt
  pub text_accepted : text.verdict_of (text_call call) ≡ Ok tt

-- "frame, then text into the area it answered, must leave the cells and counts that the combined drawing defined"
pub record SameAsCombined (call : Call) : Type 0 where
  pub cells : pair_cells call ≡ cells_after call
  pub counts : pair_counts call ≡ counts_of call

-- The numbers of a notice drawn whole, of its frame call and of its text call: 0 if accepted. "The frame call checks 1, 2, 5, 6, 7 over
-- its own inputs; the text call checks 1, 2, 3, 4, 6."
abbrev pub whole_number : Call → ℕ
whole_number call = verdict_number (verdict_of call)

abbrev pub frame_number : Call → ℕ
frame_number call = verdict_number (frame.answer_of (frame_call call))

abbrev pub text_number : Call → ℕ
text_number call = verdict_number (text.answer_of (text_call call))

abbrev pub OneOf : List ℕ → ℕ → Type 0
OneOf numbers n = some (eqb n) numbers ≡ true

-- Which of the two is refused, and with which number, by the number of the notice drawn whole: the three numbers are those of a row.
pub data Split : ℕ → ℕ → ℕ → Type 0 where
  -- whole  frame  text
  none_refused : Split 0 0 0
  refused_1 : Split 1 1 1
  refused_2 : Split 2 2 2
  refused_3 : {frame : ℕ} → OneOf (0 ∷ 5 ∷ 6 ∷ 7 ∷ []) frame → Split 3 frame 3
  refused_4 : {frame : ℕ} → OneOf (0 ∷ 5 ∷ 6 ∷ 7 ∷ []) frame → Split 4 frame 4
  refused_5 : {text : ℕ} → OneOf (0 ∷ 6 ∷ []) text → Split 5 5 text
  refused_6_frame : {text : ℕ} → OneOf (0 ∷ 6 ∷ []) text → Split 6 6 text
  refused_6_text : {frame : ℕ} → OneOf (0 ∷ 7 ∷ []) frame → Split 6 frame 6
  refused_7 : Split 7 7 0
