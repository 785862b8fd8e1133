-- Theorem `examples`: the eleven cases of document 01's 'Small notices by hand' that are marked *, by computation. Record 0 of
-- each text is its head, so `glyphs ambiguous 4 "abc"` are its fourth to sixth letters. Cases that don't say whether lines are trimmed hold
-- for both, and all of them however ambiguous glyphs are read: no text has one.
use Prim.Native.Nat.{ℕ}
use mathlib.Core.Path.{◌≡◌, refl}
use mathlib.Core.Bool.{Bool, true, false}
use mathlib.Core.List.{List, [], ◌∷◌}
use Rattle.text.specs.declared.Alignment.TheVariants.{Center}
use Rattle.text.specs.declared.AmbiguousWidth.{AmbiguousWidth}
use Rattle.text.specs.Record.{read_width}
use Rattle.block.specs.declared.Block.{Block}
use Rattle.padding.specs.Padding.{padding_of}
use Rattle.block.specs.Inner.{inner_of}
use Rattle.wrapping.specs.Wrapping.{is_over_wide, must_join, takes_spaces, gathered, joined, unjoined, full, emptied, drops, appended, ◌then◌, join_step, emit_step, append_step, step, last_lines, wrap}
use Rattle.line_composer.specs.Lines.{lines_of, line_lines, lines, wrapped_line_of}
use Rattle.place.specs.Place.{place_of}
use Rattle.line_composer.specs.Places.{is_placed, is_clipped}
use Rattle.render_line.specs.RenderLine.{line_offset}
use Rattle.block.proofs.Examples.{rect, four_borders, four_borders_lem}
use Rattle.examples.specs.Notation.{glyphs, wrapped, widths, placed_of, clipped_of}

pub record Examples (a : AmbiguousWidth) : Type 0 where
  -- limit 5 trim "___abc": empty | abc. Not trimmed: "___ab" | c.
  pub leading_trimmed : wrapped a 5 true "___abc" ≡ [] ∷ glyphs a 4 "abc" ∷ []
  pub leading_kept : wrapped a 5 false "___abc" ≡ glyphs a 1 "___ab" ∷ glyphs a 6 "c" ∷ []
  -- limit 3 "abW": one line, width 4; C-14: two placed and one clipped. limit 1 "aWb": a | b.
  pub past_limit : (trim : Bool) → (wrapped a 3 trim "abW" ≡ glyphs a 1 "abW" ∷ []) × (widths a 3 trim "abW" ≡ 4 ∷ [])
  pub past_limit_places : (placed_of 3 (glyphs a 1 "abW") ≡ true ∷ true ∷ false ∷ []) × (clipped_of 3 (glyphs a 1 "abW") ≡ false ∷ false ∷ true ∷ [])
  pub over-wide : (trim : Bool) → wrapped a 1 trim "aWb" ≡ glyphs a 1 "a" ∷ glyphs a 3 "b" ∷ []
  -- limit 3 trim "ZzabcD": Z | abcD, D clipped. limit 4 trim "___aWWx": a | WWx, x clipped.
  pub zero-width : (wrapped a 3 true "ZzabcD" ≡ glyphs a 1 "Z" ∷ glyphs a 3 "abcD" ∷ [])
      × (clipped_of 3 (glyphs a 1 "Z") ≡ false ∷ []) × (clipped_of 3 (glyphs a 3 "abcD") ≡ false ∷ false ∷ false ∷ true ∷ [])
  pub wide : (wrapped a 4 true "___aWWx" ≡ glyphs a 4 "a" ∷ glyphs a 5 "WWx" ∷ [])
      × (clipped_of 4 (glyphs a 4 "a") ≡ false ∷ []) × (clipped_of 4 (glyphs a 5 "WWx") ≡ false ∷ false ∷ true ∷ [])
  -- limit 3, not trimmed, "____": "___". Trimmed: one empty line. Empty line: one empty line.
  pub spaces_kept : wrapped a 3 false "____" ≡ glyphs a 1 "___" ∷ []
  pub spaces_trimmed : wrapped a 3 true "____" ≡ [] ∷ []
  pub empty_line : (trim : Bool) → wrapped a 3 trim "" ≡ [] ∷ []
  -- area 4, line 3, centre: column 1. inner of (0,0,1,1), four borders: (1,1,0,0).
  pub centre : line_offset Center 4 3 ≡ 1
  pub inner : (b : Block) (titles : List ℕ) → b.borders ≡ four_borders → b.padding ≡ padding_of 0 0 0 0 → inner_of b titles (rect 0 0 1 1) ≡ rect 1 1 0 0

pub examples : (a : AmbiguousWidth) → Examples a
unfolding read_width is_over_wide must_join takes_spaces gathered joined unjoined full emptied drops appended ◌then◌ join_step emit_step append_step step last_lines wrap lines_of line_lines lines wrapped_line_of place_of is_placed is_clipped line_offset
examples a =
    record {
      leading_trimmed = refl;
      leading_kept = refl;
      past_limit = λ trim. elim trim as (λ t. (wrapped a 3 t "abW" ≡ glyphs a 1 "abW" ∷ []) × (widths a 3 t "abW" ≡ 4 ∷ [])) [ true ↦ (refl, refl) | false ↦ (refl, refl) ];
      past_limit_places = (refl, refl);
      over-wide = λ trim. elim trim as (λ t. wrapped a 1 t "aWb" ≡ glyphs a 1 "a" ∷ glyphs a 3 "b" ∷ []) [ true ↦ refl | false ↦ refl ];
      zero-width = (refl, refl, refl);
      wide = (refl, refl, refl);
      spaces_kept = refl;
      spaces_trimmed = refl;
      empty_line = λ trim. elim trim as (λ t. wrapped a 3 t "" ≡ [] ∷ []) [ true ↦ refl | false ↦ refl ];
      centre = refl;
      inner = four_borders_lem;
    }
