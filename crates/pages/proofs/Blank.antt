-- Theorem `blank_elsewhere`: an inner cell without a glyph has the blank symbol, since any other symbol would be read there.
use Prim.Native.Nat.{ℕ, zero, suc, ◌+◌, ◌*◌, ◌<◌, ◌≤◌}
use mathlib.Core.Path.{◌≡◌, refl, sym, ap, ◌∙◌}
use mathlib.Core.Bool.{Bool, true, false, ◌&&◌, ◌||◌, or-true, true≢false, and-eq-true_iff}
use mathlib.Core.List.{List, [], ◌∷◌, map}
use native.Mathlib.Omega.{arith}
use borrow.Author.Tests.{ltb-true, leb-true, eqb-true, eqb-false, eq-eqb}
use lib.Dec.{eqb, leb, ltb}
use lib.ListN.{get_or}
use Rattle.text.specs.Lists.{some}
use Rattle.text.proofs.Bools.{cases}
use Rattle.text.proofs.Either.{some-append}
use Rattle.cell.specs.Cell.{cell_from, blank_symbol}
use Rattle.layout.specs.declared.Rect.{Rect}
use Rattle.layout.specs.Rect.{right_of, bottom_of, within, contains}
use Rattle.draw_notice.specs.Call.{Call}
use Rattle.draw_notice.specs.Pair.{pair_cells}
use Rattle.pages.specs.Pages.{Placement, inner_area, pages_of, page_call, placements}
use Rattle.pages.specs.Reading.{Seen, seen, each, look, pages_read, is_placed_at, symbol_at, BlankElsewhere}

-- an element of one of the lists is an element of their concatenation
some-each : {A : Type 0} (test : A → Bool) (a n : ℕ) (f : ℕ → List A) (k : ℕ) → a ≤ k → k < a + n → some test (f k) ≡ true → some test (each a n f) ≡ true
some-each test a zero f k low high h = absurd (omega arith)
some-each test a (suc n) f k low high h =
    some-append test (f a) (each (suc a) n f)
    ∙ cases (λ b. (some test (f a) || some test (each (suc a) n f)) ≡ true) (eqb a k)
    (λ e. ap (λ (j : ℕ). some test (f j) || some test (each (suc a) n f)) (eqb-true a k e) ∙ ap (λ (b : Bool). b || some test (each (suc a) n f)) h)
    (λ e. ap (λ (b : Bool). some test (f a) || b) (some-each test (suc a) n f k (let other = eqb-false a k e in omega (arith, other)) (omega arith) h) ∙ or-true (some test (f a)))

-- the columns and rows of a rectangle's cells
inside : (r : Rect) (column row : ℕ) → contains r column row ≡ true
    → (r.x ≤ column) × (column < r.x + r.width) × (r.y ≤ row) × (row < r.y + r.height)
inside r column row e =
    let both = (and-eq-true_iff (within r.x (right_of r) column) (within r.y (bottom_of r) row)).0 e in
    let across = (and-eq-true_iff (leb r.x column) (ltb column (right_of r))).0 both.0 in
    let down = (and-eq-true_iff (leb r.y row) (ltb row (bottom_of r))).0 both.1 in
    let left = leb-true r.x column across.0 in
    let right = ltb-true column (right_of r) across.1 in
    let top = leb-true r.y row down.0 in
    let bottom = ltb-true row (bottom_of r) down.1 in
    (left, omega (arith, right), top, omega (arith, bottom))

-- whether a symbol is read on a page, at a row and column of the screen
abbrev is_read_at : ℕ → ℕ → ℕ → Seen → Bool
is_read_at page row column s = eqb s.page page && eqb s.row row && eqb s.column column

read-placed : (page row column : ℕ) (ps : List Placement) → some (is_read_at page row column) (map seen ps) ≡ some (is_placed_at page row column) ps
read-placed page row column [] = refl
read-placed page row column (p ∷ ps) = ap (λ (b : Bool). is_placed_at page row column p || b) (read-placed page row column ps)

-- a symbol other than the blank one is read
is_read : (page row column cell : ℕ) → eqb (cell_from cell).symbol blank_symbol ≡ false → some (is_read_at page row column) (look page row column cell) ≡ true
unfolding look
is_read page row column cell e = simp (e, eq-eqb page page refl, eq-eqb row row refl, eq-eqb column column refl)

pub blank_elsewhere : (i : Call) → pages_read i ≡ map seen (placements i) → BlankElsewhere i
unfolding pages_read
blank_elsewhere i places page row column there inner none =
    let cell : ℕ = get_or (pair_cells (page_call i page)) (row * i.columns + column) 0 in
    let test : Seen → Bool = is_read_at page row column in
    let at = inside (inner_area i) column row inner in
    cases (λ b. symbol_at i page row column ≡ blank_symbol) (eqb (cell_from cell).symbol blank_symbol)
    (λ e. eqb-true (cell_from cell).symbol blank_symbol e)
    (λ e.
    let in_row = some-each test (inner_area i).x (inner_area i).width _ column at.0 at.1 (is_read page row column cell e) in
    let on-page = some-each test (inner_area i).y (inner_area i).height _ row at.2 at.3 in_row in
    let on-pages = some-each test 0 (pages_of i) _ page (omega arith) (omega arith) on-page in
    absurd (true≢false (sym on-pages ∙ ap (some test) places ∙ read-placed page row column (placements i) ∙ none)))
