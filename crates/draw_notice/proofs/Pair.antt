-- Document 02, C-15, on the two calls of a notice. `accepted-whole`, `accepted-apart`: both are accepted exactly where the notice drawn whole
-- is. `same_as_combined`: they then leave its cells and counts. `split`: which of them is refused, and with which number. `nothing-drawn`: if
-- the frame is refused, both change no cell. `frame_alone`: if the text is refused, the frame is drawn. `frame_stays`: the text changes no cell
-- outside the area that the frame answered.
use Prim.Native.Nat.{ℕ, ◌/◌, ◌%◌, ◌<◌}
use mathlib.Core.Path.{◌≡◌, refl, sym, ap, ◌∙◌}
use mathlib.Core.Bool.{Bool, true, false, cond, ◌||◌}
use mathlib.Core.List.{List, [], ◌∷◌, ◌++◌}
use lib.Dec.{leb}
use lib.ListN.{length, get_or}
use Rattle.std.specs.Prelude.{Ok, Err, ⊤}
use Rattle.text.proofs.Bools.{neither}
use Rattle.text.proofs.Either.{some-append}
use Rattle.layout.specs.declared.Rect.{Rect}
use Rattle.layout.specs.Rect.{contains}
use Rattle.buffer.specs.Drawing.{drawn}
use Rattle.buffer.specs.PartsExtra.{HasCells}
use Rattle.refuse.specs.declared.Refusal.{Refusal}
use Rattle.refuse.specs.declared.Refusal.TheVariants.{Screen, Styles, TextLength, TextHeads, Titles, StyleNumber, Symbol}
use Rattle.refuse.specs.Refusal.{◌if◌, first_cause, verdict_number}
use Rattle.refuse.specs.Causes.{most_accepted, screen_causes, text_causes, screen_wrong, styles_wrong, text_too_long, text_heads_wrong, titles_wrong, no_style, style_numbers_wrong, symbols_wrong}
use Rattle.refuse.proofs.Calls.{no_cause}
use Rattle.block.specs.Causes.{block_symbols}
use Rattle.check_block.specs.Styles.{frame_styles}
use Rattle.paragraph.specs.declared.Notice.{Notice}
use Rattle.paragraph.specs.Notice.{settings_of, inner_area_of}
use Rattle.paragraph.specs.Apart.{paragraph_of}
use Rattle.paragraph.proofs.Apart.{drawn_together, counted_together}
use Rattle.inner.specs.Call.{inner_answer_rect}
use Rattle.draw_frame.specs.Call as frame
use Rattle.draw_frame.specs.Call.{notice_frame_styles}
use Rattle.draw_frame.proofs.Answers as frame-laws
use Rattle.draw_frame.proofs.Untouched as frame-untouched
use Rattle.draw_text.specs.Call as text
use Rattle.draw_text.specs.Call.{text_styles}
use Rattle.draw_text.proofs.Answers as text-laws
use Rattle.draw_text.proofs.Untouched as text-untouched
use Rattle.draw_notice.specs.Call.{Call, notice_styles, causes_of, verdict_of, screen_in, drawing_of, rows_of, counts_of, cells_after}
use Rattle.draw_notice.specs.Pair.{frame_call, text_call, pair_cells, pair_counts, BothAccepted, SameAsCombined, whole_number, frame_number, text_number, OneOf, Split, none_refused, refused_1, refused_2, refused_3, refused_4, refused_5, refused_6_frame, refused_6_text, refused_7}
use Rattle.draw_notice.proofs.Answers.{screen_cells}

-- the style numbers of a notice: those of its text call, or of its frame call
styles-split : (count : ℕ) (n : Notice) (text titles : List ℕ)
    → style_numbers_wrong count (notice_styles n text titles)
    ≡ (style_numbers_wrong count (text_styles (settings_of n) text) || style_numbers_wrong count (notice_frame_styles n.style n.block titles))
unfolding notice_styles text_styles notice_frame_styles
styles-split count n text titles =
    some-append (no_style count) (text_styles (settings_of n) text) (frame_styles n.block titles) ∙ go (leb count n.style) _ _
  where
    go : (own others framed : Bool) → ((own || others) || framed) ≡ ((own || others) || (own || framed))
    go true others framed = refl
    go false others framed = refl

module _ (call : Call) where
  -- ---- where both are accepted, the notice drawn whole is

  pub accepted-whole : BothAccepted call → verdict_of call ≡ Ok tt
  unfolding verdict_of causes_of screen_causes text_causes frame.verdict_of frame.causes_of text.verdict_of text.causes_of
  accepted-whole both =
      let framed = no_cause (frame.causes_of most_accepted (frame_call call)) in
      let laid = no_cause (text.causes_of most_accepted (text_call call)) in
      let f = both.frame_accepted in
      let t = both.text_accepted in
      rw (framed Screen f, framed Styles f, laid TextLength t, laid TextHeads t, framed Titles f) (
      rw (styles-split (length call.styles) call.notice call.text call.titles, laid StyleNumber t, framed StyleNumber f, framed Symbol f) refl)

  -- ---- the cells and counts that they leave

  module _ (both : BothAccepted call) where
    abbrev here : HasCells (screen_in call) (length call.cells)
    here = screen_cells call (accepted-whole both)

    -- the area that the frame answers is the inner area of the met area
    pub area-answered : inner_answer_rect (frame.answer_of (frame_call call)) ≡ inner_area_of (screen_in call) call.titles call.notice.block call.area
    unfolding frame.answer_of frame.inner_in
    area-answered = rw both.frame_accepted

    frame-left : frame.cells_after (frame_call call) ≡ drawn call.columns (frame.drawing_of (frame_call call)) call.cells
    unfolding frame.cells_after
    frame-left = rw both.frame_accepted

    text-left : text.cells_after (text_call call) ≡ drawn call.columns (text.drawing_of (text_call call)) (frame.cells_after (frame_call call))
    unfolding text.cells_after
    text-left = rw both.text_accepted

    whole-left : cells_after call ≡ drawn call.columns (drawing_of call) call.cells
    unfolding cells_after
    whole-left = rw (accepted-whole both)

    same_cells : pair_cells call ≡ cells_after call
    unfolding pair_cells text.drawing_of frame.drawing_of drawing_of
    same_cells =
        let lay = paragraph_of call.styles (screen_in call) call.text (settings_of call.notice) in
        text-left
        ∙ ap (λ (r : Rect). drawn call.columns (lay r) (frame.cells_after (frame_call call))) area-answered
        ∙ ap (drawn call.columns (lay (inner_area_of (screen_in call) call.titles call.notice.block call.area))) frame-left
        ∙ drawn_together (screen_in call) (length call.cells) here call.styles call.text call.titles call.notice call.area call.cells
        ∙ sym whole-left

    same_counts : pair_counts call ≡ counts_of call
    unfolding pair_counts text.answer_of text.rows_of counts_of rows_of
    same_counts =
        rw (both.text_accepted, accepted-whole both, area-answered)
        (counted_together (screen_in call) (length call.cells) here call.styles call.text call.titles call.notice call.area)

    pub same_as_combined : SameAsCombined call
    same_as_combined = record { cells = same_cells; counts = same_counts }

-- the cells lent to the text call are as many
same_count : (call : Call) → length (frame.cells_after (frame_call call)) ≡ length call.cells
same_count call = frame-untouched.same_length (frame_call call)

-- so its verdict is that on the cells before the frame
text_verdict : (call : Call) → text.verdict_of (text_call call) ≡ text.verdict_of (text-untouched.on_cells (text_call call) call.cells)
unfolding text.verdict_of text.causes_of
text_verdict call =
    let numbers = text_styles (settings_of call.notice) call.text in
    ap
    (λ (count : ℕ).
    first_cause
    (screen_causes most_accepted call.columns call.rows count call.styles
    ++ (text_causes most_accepted call.text
    ++ (StyleNumber if style_numbers_wrong (length call.styles) numbers ∷ []))))
    (same_count call)

-- ---- which of the two is refused

-- the numbers of a call that checks titles, style numbers and symbols, and of one that checks style numbers alone
frame-own : (i f y : Bool) → OneOf (0 ∷ 5 ∷ 6 ∷ 7 ∷ []) (verdict_number {A = ⊤} (cond i (Err Titles) (cond f (Err StyleNumber) (cond y (Err Symbol) (Ok tt)))))
frame-own true f y = refl
frame-own false true y = refl
frame-own false false true = refl
frame-own false false false = refl

text-own : (x : Bool) → OneOf (0 ∷ 6 ∷ []) (verdict_number {A = ⊤} (cond x (Err StyleNumber) (Ok tt)))
text-own true = refl
text-own false = refl

-- causes 1 to 7: screen, styles, text length, text heads, titles, style numbers of the text or of the frame, symbols
split-causes : (s t l h i x f y : Bool) → Split
    (verdict_number {A = ⊤} (cond s (Err Screen) (cond t (Err Styles) (cond l (Err TextLength) (cond h (Err TextHeads) (cond i (Err Titles) (cond (x || f) (Err StyleNumber) (cond y (Err Symbol) (Ok tt)))))))))
    (verdict_number {A = ⊤} (cond s (Err Screen) (cond t (Err Styles) (cond i (Err Titles) (cond f (Err StyleNumber) (cond y (Err Symbol) (Ok tt)))))))
    (verdict_number {A = ⊤} (cond s (Err Screen) (cond t (Err Styles) (cond l (Err TextLength) (cond h (Err TextHeads) (cond x (Err StyleNumber) (Ok tt)))))))
split-causes true t l h i x f y = refused_1
split-causes false true l h i x f y = refused_2
split-causes false false true h i x f y = refused_3 (frame-own i f y)
split-causes false false false true i x f y = refused_4 (frame-own i f y)
split-causes false false false false true x f y = refused_5 (text-own x)
split-causes false false false false false true true y = refused_6_frame refl
split-causes false false false false false false true y = refused_6_frame refl
split-causes false false false false false true false true = refused_6_text refl
split-causes false false false false false true false false = refused_6_text refl
split-causes false false false false false false false true = refused_7
split-causes false false false false false false false false = none_refused

module _ (call : Call) where
  pub split : Split (whole_number call) (frame_number call) (text_number call)
  unfolding verdict_of causes_of screen_causes text_causes frame.verdict_of frame.causes_of text.verdict_of text.causes_of
  split =
      rw (frame-laws.answer_number (frame_call call), text-laws.answer_number (text_call call), text_verdict call, styles-split (length call.styles) call.notice call.text call.titles)
      (split-causes
      (screen_wrong most_accepted call.columns call.rows (length call.cells))
      (styles_wrong most_accepted call.styles)
      (text_too_long most_accepted call.text)
      (text_heads_wrong call.text)
      (titles_wrong most_accepted call.titles)
      (style_numbers_wrong (length call.styles) (text_styles (settings_of call.notice) call.text))
      (style_numbers_wrong (length call.styles) (notice_frame_styles call.notice.style call.notice.block call.titles))
      (symbols_wrong (block_symbols call.notice.block)))

  -- both are accepted where the notice drawn whole is
  pub accepted-apart : verdict_of call ≡ Ok tt → BothAccepted call
  unfolding verdict_of causes_of screen_causes text_causes frame.verdict_of frame.causes_of text.verdict_of text.causes_of
  accepted-apart k =
      let count = length call.styles in
      let whole = no_cause (causes_of most_accepted call) in
      let numbers = neither (style_numbers_wrong count (text_styles (settings_of call.notice) call.text)) (style_numbers_wrong count (notice_frame_styles call.notice.style call.notice.block call.titles))
      (sym (styles-split count call.notice call.text call.titles) ∙ whole StyleNumber k) in
      record {
        frame_accepted = rw (whole Screen k, whole Styles k, whole Titles k, numbers.1, whole Symbol k) refl;
        text_accepted = text_verdict call ∙ rw (whole Screen k, whole Styles k, whole TextLength k, whole TextHeads k, numbers.0) refl;
      }

  -- ---- what is drawn if one is refused, and where

  -- four zeros are an empty area
  pub nothing-drawn : (why : Refusal) → frame.verdict_of (frame_call call) ≡ Err why → pair_cells call ≡ call.cells
  unfolding pair_cells frame.answer_of
  nothing-drawn why e = text-untouched.empty-area (text_call call) (rw e refl) ∙ frame-laws.refused_cells (frame_call call) why e

  pub frame_alone : (why : Refusal) → text.verdict_of (text_call call) ≡ Err why → pair_cells call ≡ frame.cells_after (frame_call call)
  unfolding pair_cells
  frame_alone why e = text-laws.refused_cells (text_call call) why e

  pub frame_stays : (i : ℕ) → i < length call.cells → contains (inner_answer_rect (frame.answer_of (frame_call call))) (i % call.columns) (i / call.columns) ≡ false
      → get_or (pair_cells call) i 0 ≡ get_or (frame.cells_after (frame_call call)) i 0
  unfolding pair_cells
  frame_stays i there outside = text-untouched.elsewhere (text_call call) i (rw (same_count call) there) outside
