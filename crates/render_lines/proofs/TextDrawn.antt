-- The loop of `render_lines`: lines pulled one by one, each drawn on its row.
use Prim.Native.Nat.{ℕ, suc, ◌+◌, ◌-◌, ◌<◌, ◌≤◌}
use mathlib.Core.Path.{◌≡◌, refl, sym, ap, ◌∙◌}
use mathlib.Core.Bool.{Bool, true, false, cond, ◌&&◌}
use mathlib.Core.Logic.{inr, dite}
use mathlib.Core.List.{List, [], ◌∷◌}
use native.Mathlib.Nat.{add-zero, zero-add}
use native.Mathlib.Decide.{dec_lt}
use native.Mathlib.Omega.{arith}
use borrow.Author.Tests.{lt-ltb}
use mir.Val.{Fits}
use mir.Syntax.{w32}
use lib.ListN.{length, get_or, take, drop, length-drop, get_or-eq_default}
use lib.Seq.{get_or-drop}
use Rattle.text.specs.Line.{FewRecords}
use Rattle.layout.specs.declared.Rect.{Rect}
use Rattle.layout.specs.Rect.{right_of, bottom_of, within}
use Rattle.buffer.specs.declared.Screen.{Screen}
use Rattle.buffer.specs.Drawing.{drawn, inside}
use Rattle.buffer.specs.PartsExtra.{in_row, in_rows}
use Rattle.buffer.proofs.Drawn.{drawn-same}
use Rattle.buffer.proofs.Rows.{DrawingRows, rows_start, rows-turn-at, rows-done, rows-outside}
use Rattle.line_composer.specs.declared.WrappedLine.{WrappedLine}
use Rattle.line_composer.specs.declared.LineComposer.{LineComposer}
use Rattle.std.specs.Prelude.{Option, Some, None}
use Rattle.line_composer.specs.Lines.{Line, line_at}
use Rattle.line_composer.specs.ComposingExtra.{remaining_lines, Ready, PulledLine}
use Rattle.render_glyphs.specs.declared.GlyphCounts.{GlyphCounts}
use Rattle.render_line.specs.RenderLine.{drawn_starts, line_on, placed_in, clipped_in}
use Rattle.render_lines.specs.declared.TextOptions.{TextOptions}
use Rattle.render_lines.specs.Rows.{no_composed_line, text_on, lines_drawn, rows_drawn, sum_of, placed_on, clipped_on}
use Rattle.buffer.specs.PartsExtra.{AreaOnScreen}
use Rattle.render_lines.specs.DrawingExtra.{Composable, ComposerAt, lines_for}
use Rattle.line_composer.proofs.Pulled.{pulled-left, pulled-ready, none_left}
use Rattle.render_lines.proofs.Skipping.{drop_more}
use Rattle.render_line.proofs.RowDrawn.{bottom-sum}
use Rattle.render_lines.proofs.Bounds.{placed-few, clipped-few, counted-few}

-- the drawing on row j of the area
abbrev pub line_row : List ℕ → List ℕ → Rect → TextOptions → ℕ → ℕ → ℕ → ℕ
line_row styles text area options j column cell =
    line_on styles options.style area.width (get_or (lines_for options text) (options.scroll + j) no_composed_line) column cell

-- Invariant of `render_lines`: the rows of the area before `row` are drawn, the composer has the lines from that row on, and the
-- counts so far plus those of the lines still to be drawn are the counts of the answer.
pub record DrawingText (s : Screen) (old styles text : List ℕ) (area : Rect) (options : TextOptions) (cells : List ℕ) (c : LineComposer) (placed clipped row : ℕ) : Type 0 where
  pub on_screen : AreaOnScreen s (length old) area
  pub few : FewRecords text
  pub ready : Ready options.rule text c
  pub lines_left : remaining_lines options.rule options.default_alignment text c ≡ drop (options.scroll + row) (lines_for options text)
  pub drawing : DrawingRows s.columns area.x (right_of area) area.y (bottom_of area) (line_row styles text area options) old cells (area.y + row)
  pub counted : row + length (take (area.height - row) (remaining_lines options.rule options.default_alignment text c)) ≡ rows_drawn (lines_for options text) area options.scroll
  pub is-placed : placed + sum_of (placed_in area.width) (take (area.height - row) (remaining_lines options.rule options.default_alignment text c)) ≡ placed_on (lines_for options text) area options.scroll
  pub is-clipped : clipped + sum_of (clipped_in area.width) (take (area.height - row) (remaining_lines options.rule options.default_alignment text c)) ≡ clipped_on (lines_for options text) area options.scroll

same_cell : (b : Bool) (cell : ℕ) → cond b cell cell ≡ cell
same_cell true cell = refl
same_cell false cell = refl

-- A drawing of rows from y to `bottom` in which the rows from n on change nothing.
record IdleRows : Type 0 where
  pub left : ℕ
  pub right : ℕ
  pub y : ℕ
  pub n : ℕ
  pub bottom : ℕ
  pub drawing : ℕ → ℕ → ℕ → ℕ
  pub from : y ≤ n
  pub to : n ≤ bottom
  pub idle : (j column cell : ℕ) → n ≤ y + j → drawing j column cell ≡ cell

-- the idle rows may be left undrawn
rest-idle : (r : IdleRows) (column row cell : ℕ)
    → in_rows r.left r.right r.y r.n r.drawing column row cell ≡ in_rows r.left r.right r.y r.bottom r.drawing column row cell
unfolding in_rows
rest-idle r column row cell =
    dite (dec_lt row r.n)
    (λ h. simp (lt-ltb row r.n h, lt-ltb row r.bottom (omega (arith, h, r.to))))
    (λ h.
    rows-outside r.left r.right r.y r.n r.drawing column row cell (inr (inr (inr (omega (arith, h)))))
    ∙ sym (ap (λ (x : ℕ). cond (within r.left r.right column && within r.y r.bottom row) x cell)
    (r.idle (row - r.y) (column - r.left) cell (omega (arith, h, r.from)))
    ∙ same_cell (within r.left r.right column && within r.y r.bottom row) cell))

-- the drawing of a text, as a drawing of rows
text-rows : (styles text : List ℕ) (area : Rect) (options : TextOptions) →
    text_on styles options.style (lines_for options text) area options.scroll ≡ in_rows area.x (right_of area) area.y (bottom_of area) (line_row styles text area options)
unfolding text_on inside in_rows
text-rows styles text area options = refl

module _ (s : Screen) (styles text : List ℕ) (area : Rect) (options : TextOptions) where
  -- before the first row
  pub drawing-starts : (cells : List ℕ) (c : LineComposer) → Composable text → AreaOnScreen s (length cells) area
      → ComposerAt options.rule options.method options.default_alignment text options.scroll c → DrawingText s cells styles text area options cells c 0 0 0
  unfolding rows_drawn placed_on clipped_on lines_drawn
  drawing-starts cells c m a t =
      let z : area.height - 0 ≡ area.height = omega arith in
      record {
        on_screen = a;
        few = m.few;
        ready = t.ready;
        lines_left = rw add-zero t.lines_left;
        drawing =
            rw add-zero
            (rows_start s.columns area.x (right_of area) area.y (bottom_of area) (line_row styles text area options) cells a.on_screen.columns
            (omega (arith, bottom-sum s (length cells) area a)));
        counted = rw (zero-add, z) (ap (λ (ls : List Line). length (take area.height ls)) t.lines_left);
        is-placed = rw (zero-add, z) (ap (λ (ls : List Line). sum_of (placed_in area.width) (take area.height ls)) t.lines_left);
        is-clipped = rw (zero-add, z) (ap (λ (ls : List Line). sum_of (clipped_in area.width) (take area.height ls)) t.lines_left);
      }

  module _ (old cells : List ℕ) (c : LineComposer) (placed clipped row : ℕ) (t : DrawingText s old styles text area options cells c placed clipped row) where
    module _ (o : Option WrappedLine) (d : LineComposer) (p : PulledLine options.rule options.default_alignment text c o d) where
      module _ (line : WrappedLine) (e : o ≡ Some line) where
        left-line_then_rest : remaining_lines options.rule options.default_alignment text c ≡ line_at options.rule text line ∷ remaining_lines options.rule options.default_alignment text d
        left-line_then_rest = pulled-left options.rule options.default_alignment text c o d p line e

        -- the line pulled is the one of this row
        line-at_scroll_row : line_at options.rule text line ≡ get_or (lines_for options text) (options.scroll + row) no_composed_line
        line-at_scroll_row =
            ap (λ (ls : List Line). get_or ls 0 no_composed_line) (sym left-line_then_rest ∙ t.lines_left)
            ∙ get_or-drop (options.scroll + row) (lines_for options text) 0 no_composed_line
            ∙ ap (λ (n : ℕ). get_or (lines_for options text) n no_composed_line) (add-zero (options.scroll + row))

        module _ (h : row < area.height) where
          -- it is the first of the lines still to be drawn
          lines-from-row : take (area.height - row) (remaining_lines options.rule options.default_alignment text c)
              ≡ line_at options.rule text line ∷ take (area.height - (row + 1)) (remaining_lines options.rule options.default_alignment text d)
          lines-from-row =
              let n : area.height - row ≡ suc (area.height - (row + 1)) = omega arith in
              rw (left-line_then_rest, n)

          placed_with_line : placed + (placed_in area.width (line_at options.rule text line) + sum_of (placed_in area.width) (take (area.height - (row + 1)) (remaining_lines options.rule options.default_alignment text d)))
              ≡ placed_on (lines_for options text) area options.scroll
          placed_with_line = rw lines-from-row at t.is-placed

          clipped_with_line : clipped + (clipped_in area.width (line_at options.rule text line) + sum_of (clipped_in area.width) (take (area.height - (row + 1)) (remaining_lines options.rule options.default_alignment text d)))
              ≡ clipped_on (lines_for options text) area options.scroll
          clipped_with_line = rw lines-from-row at t.is-clipped

          module _ (glyphs : GlyphCounts) (k : glyphs.placed ≡ placed_in area.width (line_at options.rule text line))
              (m : glyphs.clipped ≡ clipped_in area.width (line_at options.rule text line)) where
            pub placed-fits : Fits w32 (placed + glyphs.placed)
            unfolding placed_on lines_drawn
            placed-fits =
                record {
                  fits = omega (
                    arith,
                    k,
                    placed_with_line,
                    t.few,
                    counted-few options.rule options.method options.default_alignment text (placed_in area.width) area.height options.scroll (placed-few area.width),
                  );
                }

            pub clipped-fits : Fits w32 (clipped + glyphs.clipped)
            unfolding clipped_on lines_drawn
            clipped-fits =
                record {
                  fits = omega (
                    arith,
                    m,
                    clipped_with_line,
                    t.few,
                    counted-few options.rule options.method options.default_alignment text (clipped_in area.width) area.height options.scroll (clipped-few area.width),
                  );
                }

            -- drawing it keeps the invariant
            pub drawing_goes : (next : List ℕ)
                → next ≡ drawn s.columns (in_row area.x (right_of area) (area.y + row) (line_on styles options.style area.width (line_at options.rule text line))) cells
                → DrawingText s old styles text area options next d (placed + glyphs.placed) (clipped + glyphs.clipped) (row + 1)
            drawing_goes next q =
                let z : options.scroll + row + 1 ≡ options.scroll + (row + 1) = omega arith in
                record {
                  on_screen = t.on_screen;
                  few = t.few;
                  ready = pulled-ready options.rule options.default_alignment text c o d p line e;
                  lines_left = rw z at (drop_more (options.scroll + row) _ _ (line_at options.rule text line) (sym left-line_then_rest ∙ t.lines_left));
                  drawing =
                      rows-turn-at s.columns area.x (right_of area) area.y (bottom_of area) (line_row styles text area options) old cells (area.y + row) t.drawing
                      next row refl t.on_screen.on_screen.columns (omega (arith, bottom-sum s (length old) area t.on_screen))
                      (q ∙ ap (λ (l : Line). drawn s.columns (in_row area.x (right_of area) (area.y + row) (line_on styles options.style area.width l)) cells) line-at_scroll_row);
                  counted = omega (arith, ap length lines-from-row, t.counted);
                  is-placed = omega (arith, k, placed_with_line);
                  is-clipped = omega (arith, m, clipped_with_line);
                }

      -- if no line remains, this row and the later ones have none
      module _ (e : o ≡ None) where
        no_line-from-row : (j : ℕ) → row ≤ j → get_or (lines_for options text) (options.scroll + j) no_composed_line ≡ no_composed_line
        no_line-from-row j h =
            let z : remaining_lines options.rule options.default_alignment text c ≡ [] = none_left options.rule options.default_alignment text c o d p e in
            let n : length (lines_for options text) ≤ options.scroll + j = omega (arith, ap length (sym z ∙ t.lines_left), length-drop (options.scroll + row) (lines_for options text)) in
            get_or-eq_default (lines_for options text) no_composed_line n

        rest-empty : (j column cell : ℕ) → area.y + row ≤ area.y + j → line_row styles text area options j column cell ≡ cell
        unfolding line_on drawn_starts
        rest-empty j column cell h = rw (no_line-from-row j (omega arith))

        abbrev idle-rows : IdleRows
        idle-rows =
            record {
              left = area.x;
              right = right_of area;
              y = area.y;
              n = area.y + row;
              bottom = bottom_of area;
              drawing = line_row styles text area options;
              from = t.drawing.from;
              to = t.drawing.to;
              idle = rest-empty;
            }

        pub cells-short : cells ≡ drawn s.columns (text_on styles options.style (lines_for options text) area options.scroll) old
        cells-short =
            rw (text-rows styles text area options)
            (t.drawing.so_far
            ∙ drawn-same s.columns _ _ old t.on_screen.on_screen.columns
            (λ column line cell _. rest-idle idle-rows column line cell))

    -- after the last row
    module _ (h : area.height ≤ row) where
      pub cells-done : cells ≡ drawn s.columns (text_on styles options.style (lines_for options text) area options.scroll) old
      cells-done =
          rw (text-rows styles text area options)
          (rows-done s.columns area.x (right_of area) area.y (bottom_of area) (line_row styles text area options) old cells (area.y + row) t.drawing
          (omega (arith, bottom-sum s (length old) area t.on_screen)))
