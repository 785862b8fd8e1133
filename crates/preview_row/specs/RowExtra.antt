-- Not in the papers: a row of cells as text. The bits of a cell that drawing never touches hold the width of its symbol here.
use Rattle.std.specs.Prelude.{ℕ, ◌-◌, Bool, cond, List, [], ◌∷◌, ◌++◌, eqb, ltb}
use Rattle.cell.specs.Cell.{cell_from, appearance_of}
use Rattle.preview_utf8.specs.Utf8Extra.{utf8}
use Rattle.preview_sgr.specs.SgrExtra.{sgr}

-- sequence of a style (a cell's appearance), if sequences are asked for and the previous style differs
unfoldable pub style_text : Bool → ℕ → ℕ → List ℕ
style_text ansi before style = cond ansi (cond (eqb before style) [] (sgr style)) []

unfoldable pub cell_text : Bool → ℕ → ℕ → List ℕ
cell_text ansi before cell = style_text ansi before (appearance_of cell) ++ utf8 (cell_from cell).symbol

-- text of a cell; `covered` counts the cells from it on that a wide symbol covers
unfoldable pub step_text : Bool → ℕ → ℕ → ℕ → List ℕ
step_text ansi before covered cell = cond (ltb 0 covered) [] (cell_text ansi before cell)

-- style after the cell: a covered cell doesn't change it
unfoldable pub style_after : ℕ → ℕ → ℕ → ℕ
style_after before covered cell = cond (ltb 0 covered) before (appearance_of cell)

-- count of covered cells after the cell: one less, or its own width less 1
unfoldable pub covered_after : ℕ → ℕ → ℕ
covered_after covered cell = cond (ltb 0 covered) (covered - 1) ((cell_from cell).untouched - 1)

abbrev pub cells_text : Bool → ℕ → ℕ → List ℕ → List ℕ
cells_text ansi before covered [] = []
cells_text ansi before covered (cell ∷ cells) =
    step_text ansi before covered cell ++ cells_text ansi (style_after before covered cell) (covered_after covered cell) cells

-- the end of a row resets the style and ends the line
unfoldable pub end_text : Bool → List ℕ
end_text ansi = cond ansi (sgr 0) [] ++ (10 ∷ [])

unfoldable pub row_text : Bool → List ℕ → List ℕ
row_text ansi cells = cells_text ansi 0 0 cells ++ end_text ansi
