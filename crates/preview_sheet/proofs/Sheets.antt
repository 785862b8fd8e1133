-- Drawing and measuring: one law for each path through the code.
use Prim.Native.Nat.{ℕ}
use mathlib.Core.Path.{◌≡◌, refl, sym, ap, ◌∙◌}
use mathlib.Core.Bool.{Bool, true, false}
use mathlib.Core.List.{List, []}
use native.Mathlib.Omega.{arith}
use Rattle.text.specs.declared.AmbiguousWidth.{AmbiguousWidth}
use Rattle.layout.specs.declared.Rect.{Rect}
use Rattle.layout.specs.Rect.{meet}
use Rattle.buffer.specs.Drawing.{area_of}
use Rattle.buffer.specs.Screen.{screen_of}
use Rattle.refuse.specs.declared.Refusal.{Refusal}
use Rattle.refuse.specs.Refusal.{Verdict, answering}
use Rattle.block.specs.declared.Block.{Block}
use Rattle.inner.specs.Call.{call_of as innerCall, answer_of as innerAnswer, inner_answer_rect}
use Rattle.line_composer.specs.declared.Wrap.{Wrap}
use Rattle.measure.specs.LineCount.{call_of as count_call, answer_of as countAnswer}
use Rattle.render_text.specs.declared.TextSettings.{TextSettings}
use Rattle.paragraph.specs.declared.Notice.{Notice}
use Rattle.paragraph.specs.Notice.{settings_of}
use Rattle.draw_frame.specs.Call as frame
use Rattle.draw_frame.proofs.Answers.{refused_cells}
use Rattle.render_lines.specs.declared.DrawCounts.{DrawCounts}
use Rattle.draw_text.specs.Call as draw-text
use Rattle.draw_notice.specs.Call.{Call, call_of}
use Rattle.draw_notice.specs.Pair.{frame_call, text_call, pair_cells}
use Rattle.draw_notice.proofs.Pair.{nothing-drawn}
use Rattle.count_pages.specs.declared.PageCounts.{PageCounts}
use Rattle.count_pages.specs.Call.{answer_of as pagesAnswer}
use Rattle.pages.specs.Pages.{scrolled_to}
use Rattle.flat.specs.declared.FlatArea.{FlatArea}
use Rattle.flat.specs.declared.FlatBlock.{FlatBlock}
use Rattle.flat.specs.declared.FlatText.{FlatText}
use Rattle.flat.specs.FlatExtra.{ambiguous_named, area_from, block_from, notice_from, wrap_named}
use Rattle.preview_file.specs.declared.Opening.{Opening}
use Rattle.std.specs.Prelude.{Result, Ok, Err, IsErrAnd}
use Rattle.preview_sheet.specs.declared.Measure.{Measure}
use Rattle.preview_sheet.specs.SheetExtra.{notice_at, call_at, answered_both, pair_answer, opening_read, nothing_set, lines_in, met_of, fitting_of}

-- an error that a call hands on
pub err_of : {A : Type 0} (r : Result A Refusal) (why : Refusal) → IsErrAnd r (λ own. own ≡ why) → r ≡ Err why
err_of (Ok answer) why h = absurd h
err_of (Err own) why h = ap (λ f. Err f) h

pub area-met : (area : FlatArea) (columns rows : ℕ) (a s r : Rect)
    → a ≡ area_from area → s ≡ area_of (screen_of columns rows) → r ≡ meet a s → r ≡ meet (area_from area) (area_of (screen_of columns rows))
area-met area columns rows a s r e f g = rw (e, f) at g

-- settings with another scroll row give the notice scrolled there
pub scrolled : (b : FlatBlock) (t : FlatText) (first : ℕ) (r : Notice)
    → r ≡ notice_from b (record { scroll = first; column = t.column; style = t.style; text_style = t.text_style; alignment = t.alignment; wrap = t.wrap; ambiguous = t.ambiguous })
    → r ≡ scrolled_to first (notice_from b t)
unfolding notice_from wrap_named
scrolled b t first r e = e

-- a refusal in the answer of a frame call is its verdict
refused_for : (call : frame.Call) (why : Refusal) → frame.answer_of call ≡ Err why → frame.verdict_of call ≡ Err why
unfolding frame.answer_of
refused_for call why e = go (frame.verdict_of call) e
  where
    go : (v : Verdict) → answering v (frame.inner_in call) ≡ Err why → v ≡ Err why
    go (Ok _) p = absurd (let z : ◌≡◌ {A = ℕ} 0 1 = cc in omega arith)
    go (Err other) p = cc

-- a page is checked as a whole
pub page_checked : (o : Opening) (first columns rows : ℕ) (styles titles text cells : List ℕ) (area : Rect) (n : Notice)
    → columns ≡ o.columns → rows ≡ o.rows → area ≡ area_from o.area → n ≡ notice_at o first → (r : Result PageCounts Refusal) → r ≡ pagesAnswer (call_of columns rows cells styles text titles area n)
    → r ≡ pagesAnswer (call_at o first styles titles text cells)
page_checked o first columns rows styles titles text cells area n wide high in_area_lem at_first r e = rw (wide, high, in_area_lem, at_first) at e

-- drawing a page is drawing its notice on blank cells
pub drawn-notice : (o : Opening) (first columns rows : ℕ) (styles titles text cells blanks : List ℕ) (area : Rect) (n : Notice)
    → columns ≡ o.columns → rows ≡ o.rows → area ≡ area_from o.area → n ≡ notice_at o first → cells ≡ blanks → (r : Result DrawCounts Refusal) (new : List ℕ)
    → let call = call_of columns rows cells styles text titles area n in
    (r ≡ pair_answer call) × (new ≡ pair_cells call)
    → let page = call_at o first styles titles text blanks in
    (r ≡ pair_answer page) × (new ≡ pair_cells page)
drawn-notice o first columns rows styles titles text cells blanks area n wide high in_area_lem at_first filled r new e = rw (wide, high, in_area_lem, at_first, filled) at e

-- drawing a notice is a call of `draw_frame`, then one of `draw_text`
module _ (call : Call) (framed : Result Rect Refusal) (between : List ℕ) (e : (framed ≡ frame.answer_of (frame_call call)) × (between ≡ frame.cells_after (frame_call call))) where
  pub frame_refused : (why : Refusal) → framed ≡ Err why → (Err why ≡ pair_answer call) × (between ≡ pair_cells call)
  unfolding pair_answer
  frame_refused why none =
      let refused : frame.verdict_of (frame_call call) ≡ Err why = refused_for (frame_call call) why (sym e.0 ∙ none) in
      (rw (← e.0, none) refl, e.1 ∙ refused_cells (frame_call call) why refused ∙ sym (nothing-drawn call why refused))

  pub text-laid : (inner : Rect) (s : TextSettings) → framed ≡ Ok inner → s ≡ settings_of call.notice → (r : Result DrawCounts Refusal) (new : List ℕ)
      → let laid = draw-text.call_of call.columns call.rows between call.styles call.text inner s in
      (r ≡ draw-text.answer_of laid) × (new ≡ draw-text.cells_after laid)
      → (r ≡ pair_answer call) × (new ≡ pair_cells call)
  unfolding pair_answer pair_cells
  text-laid inner s is of-notice r new f =
      let place : inner ≡ inner_answer_rect (frame.answer_of (frame_call call)) = ap inner_answer_rect (sym is ∙ e.0) in
      let laid = rw (e.1, place, of-notice) at f in
      (laid.0 ∙ sym (ap (λ (a : Result Rect Refusal). answered_both a (draw-text.answer_of (text_call call))) (sym e.0 ∙ is)), laid.1)

module _ (a : AmbiguousWidth) (wrap : Wrap) (text : List ℕ) (inside : Rect) (b : Block) (nothing-set : b ≡ block_from nothing_set) (m : Result ℕ Refusal)
    (counted : m ≡ countAnswer (count_call text a [] b wrap inside.width)) where
  pub lines-counted : (lines : ℕ) → m ≡ Ok lines → Ok (record { width = inside.width; height = inside.height; lines = lines }) ≡ lines_in a wrap text inside
  unfolding lines_in
  lines-counted lines e = rw (← nothing-set, ← counted, e) refl

  pub lines_refused : (why : Refusal) → m ≡ Err why → Err why ≡ lines_in a wrap text inside
  unfolding lines_in
  lines_refused why e = rw (← nothing-set, ← counted, e) refl

-- the answer of `inner`, given the block and the area that the code passes
pub inner-answered : (o : Opening) (titles : List ℕ) (b : Block) (met : Rect) (a : Result Rect Refusal)
    → b ≡ block_from o.block → met ≡ met_of o → a ≡ innerAnswer (innerCall b titles met)
    → a ≡ innerAnswer (innerCall (block_from o.block) titles (met_of o))
inner-answered o titles b met a of-block shared inner = rw (of-block, shared) at inner

module _ (o : Opening) (titles text : List ℕ) (a : Result Rect Refusal) (inner : a ≡ innerAnswer (innerCall (block_from o.block) titles (met_of o))) where
  pub area-measured : (inside : Rect) (wrap : Wrap) (ambiguous : AmbiguousWidth) (r : Result Measure Refusal) → a ≡ Ok inside → wrap ≡ wrap_named o.text
      → ambiguous ≡ ambiguous_named o.text.ambiguous → r ≡ lines_in ambiguous wrap text inside → r ≡ fitting_of o titles text
  unfolding fitting_of
  area-measured inside wrap ambiguous r e f g h = rw (← inner, e, ← f, ← g) h

  pub area_refused : (why : Refusal) → a ≡ Err why → Err why ≡ fitting_of o titles text
  unfolding fitting_of
  area_refused why e = rw (← inner, e) refl

pub ruleset sheets = (area-met, scrolled, lines-counted, lines_refused, inner-answered, area-measured, area_refused)

-- ambiguous glyphs are read wide if so asked, else as they were
module _ (o : Opening) (wide : Bool) where
  pub read_wide : wide ≡ true → opening_read true o ≡ opening_read wide o
  read_wide e = rw e refl

  pub read-unchanged : wide ≡ false → o ≡ opening_read wide o
  read-unchanged e = rw e refl

pub ruleset readings = (read_wide, read-unchanged)
