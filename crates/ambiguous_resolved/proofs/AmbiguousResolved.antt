-- Theorem `ambiguous-resolved`: reading ambiguous glyphs by a setting is replacing their codes. Theorem `unambiguous_kept`: records
-- without such a glyph are unchanged by that.
use Prim.Native.Nat.{ℕ}
use mathlib.Core.Path.{◌≡◌, refl, ap}
use mathlib.Core.Bool.{Bool, false}
use mathlib.Core.List.{List, [], ◌∷◌}
use lib.ListN.{length, length-map}
use Rattle.text.specs.declared.Alignment.{Alignment}
use Rattle.text.specs.declared.Alignment.TheVariants.{Left}
use Rattle.text.specs.declared.AmbiguousWidth.{AmbiguousWidth}
use Rattle.text.specs.Record.{alignment_of}
use Rattle.text.specs.Alignment.{resolved}
use Rattle.text.specs.Line.{lines_from, glyphs_of}
use Rattle.text.specs.Lists.{some}
use Rattle.text.proofs.Bools.{neither}
use Rattle.wrapping.specs.declared.Rule.{Rule}
use Rattle.wrapping.specs.Rule.{rule_of}
use Rattle.wrapping.specs.Wrapping.{wrap}
use Rattle.line_composer.specs.declared.Wrap.{Wrap}
use Rattle.line_composer.specs.declared.Wrap.TheVariants.{Off, On}
use Rattle.line_composer.specs.declared.Method.{Method}
use Rattle.line_composer.specs.declared.Method.TheVariants.{WordWrap, Truncate}
use Rattle.line_composer.specs.Wrap.{method_of, rule_at}
use Rattle.line_composer.specs.Lines.{lines_of, line_lines, all_lines, lines, all_skipped, skipped, all_dropped, dropped}
use Rattle.line_composer.specs.Marks.{all_marked, marked_lines}
use Rattle.refuse.specs.Causes.{most_accepted, text_causes, line_causes}
use Rattle.layout.specs.declared.Rect.{Rect}
use Rattle.block.specs.declared.Block.{Block}
use Rattle.check_block.specs.Causes.{frame_causes}
use Rattle.check_block.specs.Styles.{frame_styles}
use Rattle.render_text.specs.declared.TextSettings.{TextSettings}
use Rattle.paragraph.specs.declared.Notice.{Notice}
use Rattle.paragraph.specs.Notice.{notice_lines, inner_area_of, inside_of, inside_counts}
use Rattle.paragraph.specs.Apart.{paragraph_of, paragraph_counts}
use Rattle.list_lines.specs.Call as list
use Rattle.tally.specs.Tally.{tally_of}
use Rattle.tally.specs.Call as tally
use Rattle.measure_text.specs.Measures.{lines_at, line_count, widest, line_width}
use Rattle.measure.specs.LineCount as count
use Rattle.measure.specs.LineWidth as width
use Rattle.draw_block.specs.Call as block
use Rattle.draw_frame.specs.Call as frame
use Rattle.draw_text.specs.Call as text
use Rattle.draw_text.specs.Call.{text_styles}
use Rattle.draw_notice.specs.Call as notice
use Rattle.pages.specs.Pages.{inner_area, composed_lines, pages_of}
use Rattle.count_pages.specs.Call as pages
use Rattle.ambiguous_resolved.specs.Replaced.{is_ambiguous, replaced, code_replaced, read_as, settings_read_as}
use Rattle.ambiguous_resolved.specs.AmbiguousResolved.{AmbiguousResolved}
use Rattle.ambiguous_resolved.proofs.Lines.{same-glyphs, lines-along, same-titles}
use Rattle.ambiguous_resolved.proofs.SettingUnread.{wrap_unread, over_unread, lines_unread}
use Rattle.ambiguous_resolved.proofs.Causes.{text-heads-same, glyph-styles-same, titles-wrong-same, inner-same, vertical_same}

-- ---- the rules

module _ (a b : AmbiguousWidth) (limit : ℕ) (trim : Bool) where
  abbrev u : Rule
  u = rule_of a limit trim

  abbrev v : Rule
  v = rule_of b limit trim

  -- the composed lines
  pub same_lines : (method : Method) (default : Alignment) (text : List ℕ) → lines v method default (replaced a text) ≡ lines u method default text
  unfolding lines line_lines
  same_lines method default =
      lines-along a b (λ ls ks. all_lines v method default ls ≡ all_lines u method default ks) refl
      (λ l k ls ks s e.
      let alignment : Alignment = resolved (alignment_of k.head) default in
      rw (s.head, same-glyphs a b l k s, lines_unread a b limit trim method alignment (glyphs_of a k), e)) 0

  -- with their marks
  same_marked : (method : Method) (default : Alignment) (text : List ℕ) → marked_lines v method default (replaced a text) ≡ marked_lines u method default text
  unfolding marked_lines line_lines
  same_marked method default =
      lines-along a b (λ ls ks. all_marked v method default ls ≡ all_marked u method default ks) refl
      (λ l k ls ks s e.
      let alignment : Alignment = resolved (alignment_of k.head) default in
      rw (s.head, same-glyphs a b l k s, lines_unread a b limit trim method alignment (glyphs_of a k), e)) 0

  same-skipped : (text : List ℕ) → skipped v (replaced a text) ≡ skipped u text
  unfolding skipped
  same-skipped =
      lines-along a b (λ ls ks. all_skipped v ls ≡ all_skipped u ks) refl
      (λ l k ls ks s e. rw (same-glyphs a b l k s, over_unread a b limit trim (glyphs_of a k), e)) 0

  same-dropped : (text : List ℕ) → dropped v (replaced a text) ≡ dropped u text
  unfolding dropped
  same-dropped =
      lines-along a b (λ ls ks. all_dropped v ls ≡ all_dropped u ks) refl
      (λ l k ls ks s e. rw (same-glyphs a b l k s, wrap_unread a b limit trim (glyphs_of a k), e)) 0

  same_tally : (text : List ℕ) → tally_of v (replaced a text) ≡ tally_of u text
  unfolding tally_of
  same_tally text = rw (same_lines WordWrap Left text, same-skipped text, same-dropped text)

same-widest : (a b : AmbiguousWidth) (text : List ℕ) → widest b (lines_from 0 (replaced a text)) ≡ widest a (lines_from 0 text)
same-widest a b = lines-along a b (λ ls ks. widest b ls ≡ widest a ks) refl (λ l k ls ks s e. rw (same-glyphs a b l k s, e)) 0

same_count : (a : AmbiguousWidth) (text : List ℕ) → length (lines_from 0 (replaced a text)) ≡ length (lines_from 0 text)
same_count a = lines-along a a (λ ls ks. length ls ≡ length ks) refl (λ l k ls ks s e. rw e) 0

-- at a width
same-lines-at : (a b : AmbiguousWidth) (wrap : Wrap) (width : ℕ) (text : List ℕ) → lines_at b wrap width (replaced a text) ≡ lines_at a wrap width text
unfolding lines_at
same-lines-at a b (On trim) width text = ap length (same_lines a b width trim WordWrap Left text)
same-lines-at a b (Off column) width text = same_count a text

same-composed : (a b : AmbiguousWidth) (wrap : Wrap) (width : ℕ) (default : Alignment) (text : List ℕ)
    → lines (rule_at b wrap width) (method_of wrap) default (replaced a text) ≡ lines (rule_at a wrap width) (method_of wrap) default text
same-composed a b (On trim) width default text = same_lines a b width trim WordWrap default text
same-composed a b (Off column) width default text = same_lines a b width false (Truncate column) default text

-- the causes of a text
same-text-causes : (a : AmbiguousWidth) (text : List ℕ) → text_causes most_accepted (replaced a text) ≡ text_causes most_accepted text
unfolding text_causes
same-text-causes a text = rw (length-map text (code_replaced a), text-heads-same a text)

-- ---- the calls

module _ (a b : AmbiguousWidth) (text : List ℕ) where
  -- `list_lines`
  module _ (default : Alignment) (limit : ℕ) (trim : Bool) (entries : List ℕ) where
    abbrev listed : list.Call
    listed = list.call_of text a default limit trim entries

    abbrev listed_replaced : list.Call
    listed_replaced = list.call_of (replaced a text) b default limit trim entries

    list_verdict : list.verdict_of listed_replaced ≡ list.verdict_of listed
    unfolding list.verdict_of list.causes_of list.lines_of line_causes
    list_verdict = rw (same-text-causes a text, same_lines a b limit trim WordWrap default text)

    list-resolved : (list.answer_of listed_replaced ≡ list.answer_of listed) × (list.list_after listed_replaced ≡ list.list_after listed)
    unfolding list.answer_of list.list_after list.lines_of list.marked_lines_of
    list-resolved = (
      rw (list_verdict, same_lines a b limit trim WordWrap default text),
      rw (list_verdict, same_lines a b limit trim WordWrap default text, same_marked a b limit trim WordWrap default text),
    )

  -- `tally`
  tally_resolved : (limit : ℕ) (trim : Bool) → tally.answer_of (tally.call_of (replaced a text) b limit trim) ≡ tally.answer_of (tally.call_of text a limit trim)
  unfolding tally.answer_of tally.verdict_of tally.causes_of line_causes
  tally_resolved limit trim = rw (same-text-causes a text, same_tally a b limit trim text)

  -- `line_count` and `line_width`
  module _ (titles : List ℕ) (framed : Block) where
    count-resolved : (wrap : Wrap) (columns : ℕ)
        → count.answer_of (count.call_of (replaced a text) b (replaced a titles) framed wrap columns) ≡ count.answer_of (count.call_of text a titles framed wrap columns)
    unfolding count.answer_of count.verdict_of count.causes_of width.causes_of frame_causes line_count
    count-resolved wrap columns = rw (same-text-causes a text, titles-wrong-same a most_accepted titles, vertical_same a framed titles, same-lines-at a b wrap columns text)

    width-resolved : width.answer_of (width.call_of (replaced a text) b (replaced a titles) framed) ≡ width.answer_of (width.call_of text a titles framed)
    unfolding width.answer_of width.verdict_of width.causes_of frame_causes line_width
    width-resolved = rw (same-text-causes a text, titles-wrong-same a most_accepted titles, same-widest a b text)

-- the style numbers of a block and its titles
same-frame-styles : (a : AmbiguousWidth) (b : Block) (titles : List ℕ) → frame_styles b (replaced a titles) ≡ frame_styles b titles
unfolding frame_styles
same-frame-styles a b titles = rw (glyph-styles-same a titles)

module _ (a b : AmbiguousWidth) (columns rows : ℕ) (cells styles titles : List ℕ) (area : Rect) where
  -- `draw_block`
  module _ (framed : Block) where
    abbrev boxed : block.Call
    boxed = block.call_of columns rows cells styles titles a area framed

    abbrev boxed_replaced : block.Call
    boxed_replaced = block.call_of columns rows cells styles (replaced a titles) b area framed

    block_verdict : block.verdict_of boxed_replaced ≡ block.verdict_of boxed
    unfolding block.verdict_of block.causes_of
    block_verdict = rw (titles-wrong-same a most_accepted titles, same-frame-styles a framed titles)

    block-resolved : (block.answer_of boxed_replaced ≡ block.answer_of boxed) × (block.cells_after boxed_replaced ≡ block.cells_after boxed)
    unfolding block.cells_after block.drawing_of
    block-resolved = (rw block_verdict, rw (block_verdict, same-titles a b titles))

  -- `draw_frame`
  module _ (style : ℕ) (framed : Block) where
    abbrev enframed : frame.Call
    enframed = frame.call_of columns rows cells styles titles a area style framed

    abbrev enframed_replaced : frame.Call
    enframed_replaced = frame.call_of columns rows cells styles (replaced a titles) b area style framed

    frame_verdict : frame.verdict_of enframed_replaced ≡ frame.verdict_of enframed
    unfolding frame.verdict_of frame.causes_of frame.notice_frame_styles
    frame_verdict = rw (titles-wrong-same a most_accepted titles, same-frame-styles a framed titles)

    frame-resolved : (frame.answer_of enframed_replaced ≡ frame.answer_of enframed) × (frame.cells_after enframed_replaced ≡ frame.cells_after enframed)
    unfolding frame.answer_of frame.inner_in inner_area_of frame.cells_after frame.drawing_of
    frame-resolved = (rw (frame_verdict, inner-same a framed titles _), rw (frame_verdict, same-titles a b titles))

  -- `draw_text`
  module _ (records : List ℕ) (s : TextSettings) where
    abbrev laid : text.Call
    laid = text.call_of columns rows cells styles records area (settings_read_as a s)

    abbrev laid_replaced : text.Call
    laid_replaced = text.call_of columns rows cells styles (replaced a records) area (settings_read_as b s)

    text_verdict : text.verdict_of laid_replaced ≡ text.verdict_of laid
    unfolding text.verdict_of text.causes_of text.text_styles
    text_verdict = rw (same-text-causes a records, glyph-styles-same a records)

    text-resolved : (text.answer_of laid_replaced ≡ text.answer_of laid) × (text.cells_after laid_replaced ≡ text.cells_after laid)
    unfolding text.answer_of text.rows_of text.cells_after text.drawing_of paragraph_of inside_of paragraph_counts inside_counts notice_lines
    text-resolved = (
      rw (text_verdict, same-composed a b s.wrap _ s.alignment records),
      rw (text_verdict, same-composed a b s.wrap _ s.alignment records),
    )

  -- `pages`
  module _ (text : List ℕ) (n : Notice) where
    abbrev noticed : notice.Call
    noticed = notice.call_of columns rows cells styles text titles area (read_as a n)

    abbrev noticed_replaced : notice.Call
    noticed_replaced = notice.call_of columns rows cells styles (replaced a text) (replaced a titles) area (read_as b n)

    notice_verdict : notice.verdict_of noticed_replaced ≡ notice.verdict_of noticed
    unfolding notice.verdict_of notice.causes_of notice.notice_styles text_styles
    notice_verdict = rw (same-text-causes a text, titles-wrong-same a most_accepted titles, glyph-styles-same a text, same-frame-styles a n.block titles)

    pages-resolved : pages.answer_of noticed_replaced ≡ pages.answer_of noticed
    unfolding pages.answer_of pages.pages_in inner_area inner_area_of composed_lines pages_of notice_lines
    pages-resolved = rw (notice_verdict, inner-same a n.block titles _, same-composed a b n.wrap _ n.alignment text)

-- ---- all calls

pub ambiguous-resolved : (a b : AmbiguousWidth) → AmbiguousResolved a b
ambiguous-resolved a b =
    record {
      listed = list-resolved a b;
      tallied = tally_resolved a b;
      counted = count-resolved a b;
      measured = width-resolved a b;
      framed = block-resolved a b;
      frame_drawn = λ columns rows cells styles titles area style framed. frame-resolved a b columns rows cells styles titles area style framed;
      text_drawn = λ columns rows cells styles records area s. text-resolved a b columns rows cells styles [] area records s;
      paged = λ columns rows cells styles text titles area n. pages-resolved a b columns rows cells styles titles area text n;
    }

-- records without a code 7 are what they were, so both settings read them alike
pub unambiguous_kept : (a : AmbiguousWidth) (records : List ℕ) → some is_ambiguous records ≡ false → replaced a records ≡ records
unfolding code_replaced
unambiguous_kept a [] e = refl
unambiguous_kept a (r ∷ rs) e =
    let none = neither (is_ambiguous r) (some is_ambiguous rs) e in
    rw (none.0, unambiguous_kept a rs none.1)
