-- Document 02, C-11: "The crate is given each code 7 as the 1 or 2 read for it." For each call that reads widths: read by setting
-- a, it answers and leaves cells and list as it does on the same records with each code 7 replaced by the 1 or 2 that a reads,
-- whatever setting b these are read by.
use Rattle.std.specs.Prelude.{ℕ, ◌≡◌, Bool, List}
use Rattle.text.specs.declared.Alignment.{Alignment}
use Rattle.text.specs.declared.AmbiguousWidth.{AmbiguousWidth}
use Rattle.layout.specs.declared.Rect.{Rect}
use Rattle.line_composer.specs.declared.Wrap.{Wrap}
use Rattle.block.specs.declared.Block.{Block}
use Rattle.render_text.specs.declared.TextSettings.{TextSettings}
use Rattle.paragraph.specs.declared.Notice.{Notice}
use Rattle.list_lines.specs.Call as list
use Rattle.tally.specs.Call as tally
use Rattle.measure.specs.LineCount as count
use Rattle.measure.specs.LineWidth as width
use Rattle.draw_block.specs.Call as block
use Rattle.draw_frame.specs.Call as frame
use Rattle.draw_text.specs.Call as text
use Rattle.draw_notice.specs.Call as notice
use Rattle.count_pages.specs.Call as pages
use Rattle.ambiguous_resolved.specs.Replaced.{replaced, read_as, settings_read_as}

pub record AmbiguousResolved (a b : AmbiguousWidth) : Type 0 where
  -- a list call writes the same entries
  pub listed : (text : List ℕ) (default : Alignment) (limit : ℕ) (trim : Bool) (entries : List ℕ) →
      let old = list.call_of text a default limit trim entries in
      let new = list.call_of (replaced a text) b default limit trim entries in
      (list.answer_of new ≡ list.answer_of old) × (list.list_after new ≡ list.list_after old)
  pub tallied : (text : List ℕ) (limit : ℕ) (trim : Bool) →
      tally.answer_of (tally.call_of (replaced a text) b limit trim) ≡ tally.answer_of (tally.call_of text a limit trim)
  -- `line_count` and `line_width`, with the codes of their text and titles replaced, though they read no width of a title
  pub counted : (text titles : List ℕ) (framed : Block) (wrap : Wrap) (columns : ℕ) →
      count.answer_of (count.call_of (replaced a text) b (replaced a titles) framed wrap columns) ≡ count.answer_of (count.call_of text a titles framed wrap columns)
  pub measured : (text titles : List ℕ) (framed : Block) →
      width.answer_of (width.call_of (replaced a text) b (replaced a titles) framed) ≡ width.answer_of (width.call_of text a titles framed)
  -- a block is drawn alike, with the codes of its titles replaced
  pub framed : (columns rows : ℕ) (cells styles titles : List ℕ) (area : Rect) (framed : Block) →
      let old = block.call_of columns rows cells styles titles a area framed in
      let new = block.call_of columns rows cells styles (replaced a titles) b area framed in
      (block.answer_of new ≡ block.answer_of old) × (block.cells_after new ≡ block.cells_after old)
  -- so is the frame of a notice
  pub frame_drawn : (columns rows : ℕ) (cells styles titles : List ℕ) (area : Rect) (style : ℕ) (framed : Block) →
      let old = frame.call_of columns rows cells styles titles a area style framed in
      let new = frame.call_of columns rows cells styles (replaced a titles) b area style framed in
      (frame.answer_of new ≡ frame.answer_of old) × (frame.cells_after new ≡ frame.cells_after old)
  -- and its text, with its codes replaced
  pub text_drawn : (columns rows : ℕ) (cells styles records : List ℕ) (area : Rect) (s : TextSettings) →
      let old = text.call_of columns rows cells styles records area (settings_read_as a s) in
      let new = text.call_of columns rows cells styles (replaced a records) area (settings_read_as b s) in
      (text.answer_of new ≡ text.answer_of old) × (text.cells_after new ≡ text.cells_after old)
  -- the pages of a notice, with the codes of its text and titles replaced
  pub paged : (columns rows : ℕ) (cells styles text titles : List ℕ) (area : Rect) (n : Notice) →
      let old = notice.call_of columns rows cells styles text titles area (read_as a n) in
      let new = notice.call_of columns rows cells styles (replaced a text) (replaced a titles) area (read_as b n) in
      pages.answer_of new ≡ pages.answer_of old
