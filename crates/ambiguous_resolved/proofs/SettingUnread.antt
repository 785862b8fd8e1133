-- Composing reads a glyph's width, not the setting: two rules that differ in it alone make the same lines of the same glyphs.
use Prim.Native.Nat.{ℕ, ◌+◌, ◌-◌}
use mathlib.Core.Path.{◌≡◌, refl, ap}
use mathlib.Core.Bool.{Bool}
use mathlib.Core.List.{List, [], ◌∷◌, ◌++◌}
use Rattle.text.specs.declared.Alignment.{Alignment}
use Rattle.text.specs.declared.AmbiguousWidth.{AmbiguousWidth}
use Rattle.text.specs.Line.{Glyph}
use Rattle.wrapping.specs.declared.Rule.{Rule}
use Rattle.wrapping.specs.Rule.{rule_of}
use Rattle.wrapping.specs.Wrapping.{Pending, Wrapped, empty_pending, is_over_wide, must_join, takes_spaces, gathered, joined, unjoined, full, emptied, drops, appended, ◌then◌, join_step, emit_step, append_step, step, last_lines, wrap_from, wrap, over_wides}
use Rattle.line_truncator.specs.Truncation.{offset_of, ends, shown_from, truncate}
use Rattle.line_composer.specs.declared.Method.{Method}
use Rattle.line_composer.specs.declared.Method.TheVariants.{WordWrap, Truncate}
use Rattle.line_composer.specs.Lines.{lines_of}

module _ (a b : AmbiguousWidth) (limit : ℕ) (trim : Bool) where
  abbrev u : Rule
  u = rule_of a limit trim

  abbrev v : Rule
  v = rule_of b limit trim

  from_unread : (s : Pending) (gs : List Glyph) → wrap_from v s gs ≡ wrap_from u s gs
  unfolding is_over_wide must_join takes_spaces gathered joined unjoined full emptied drops appended ◌then◌ join_step emit_step append_step step last_lines
  from_unread s [] = refl
  from_unread s (g ∷ gs) =
      ap (λ (later : Wrapped). record { lines = (step u s g).lines ++ later.lines; dropped = (step u s g).dropped ++ later.dropped })
      (from_unread (step u s g).pending gs)

  pub wrap_unread : (gs : List Glyph) → wrap v gs ≡ wrap u gs
  unfolding wrap
  wrap_unread gs = rw (from_unread empty_pending gs)

  pub over_unread : (gs : List Glyph) → over_wides v gs ≡ over_wides u gs
  unfolding is_over_wide
  over_unread [] = refl
  over_unread (g ∷ gs) = rw (over_unread gs)

  shown_unread : (offset shown : ℕ) (gs : List Glyph) → shown_from v offset shown gs ≡ shown_from u offset shown gs
  unfolding is_over_wide ends
  shown_unread offset shown [] = refl
  shown_unread offset shown (g ∷ gs) =
      rw (shown_unread offset shown gs, shown_unread (offset - g.width) shown gs, shown_unread 0 (shown + g.width) gs)

  pub lines_unread : (method : Method) (alignment : Alignment) (gs : List Glyph) → lines_of v method alignment gs ≡ lines_of u method alignment gs
  unfolding lines_of truncate
  lines_unread WordWrap alignment gs = ap (λ (w : Wrapped). w.lines) (wrap_unread gs)
  lines_unread (Truncate column) alignment gs = rw (shown_unread (offset_of column alignment) 0 gs)
