-- No cause of refusal, no style number and no inner area depends on whether a code 7 is replaced.
use Prim.Native.Nat.{ℕ}
use mathlib.Core.Path.{◌≡◌, refl, ap}
use mathlib.Core.Bool.{Bool, true, false, cond, not, ◌&&◌, ◌||◌}
use mathlib.Core.List.{List, [], ◌∷◌}
use native.Mathlib.Omega.{arith}
use lib.Dec.{eqb, ltb}
use lib.ListN.{length}
use Rattle.text.specs.declared.AmbiguousWidth.{AmbiguousWidth}
use Rattle.text.specs.declared.TitlePosition.{TitlePosition}
use Rattle.text.specs.declared.TitlePosition.TheVariants.{Top, Bottom}
use Rattle.text.specs.Record.{is_head, style_of, position_of, zeros_of}
use Rattle.text.specs.Line.{TextLine, lines_from, not_opening}
use Rattle.text.specs.Lists.{some}
use Rattle.layout.specs.declared.Rect.{Rect}
use Rattle.refuse.specs.declared.Ceilings.{Ceilings}
use Rattle.refuse.specs.Causes.{text_head_wrong, text_heads_wrong, too_many_glyphs, position_three, head_zeros_set, titles_wrong, glyph_styles}
use Rattle.block.specs.declared.Block.{Block}
use Rattle.block.specs.Inner.{title_is_at, has_title_at, inner_of, vertical_space}
use Rattle.ambiguous_resolved.specs.Replaced.{code_replaced, replaced}
use Rattle.ambiguous_resolved.proofs.Records.{head-kept, same_head, same-style}
use Rattle.ambiguous_resolved.proofs.Lines.{SameLine, lines-along}

module _ (a : AmbiguousWidth) where
  opening_same : (rs : List ℕ) → not_opening (replaced a rs) ≡ not_opening rs
  opening_same [] = refl
  opening_same (r ∷ rs) = rw (same_head a r)

  head-wrong-same : (r : ℕ) → text_head_wrong (code_replaced a r) ≡ text_head_wrong r
  head-wrong-same r = rw (same_head a r) (go (is_head r) refl)
    where
      wrong : ℕ → Bool
      wrong head = not (eqb (zeros_of head) 0) || not (eqb (position_of head) 0)

      go : (x : Bool) → is_head r ≡ x → (x && wrong (code_replaced a r)) ≡ (x && wrong r)
      go true h = rw (head-kept a r h)
      go false h = refl

  heads-wrong-same : (rs : List ℕ) → some text_head_wrong (replaced a rs) ≡ some text_head_wrong rs
  heads-wrong-same [] = refl
  heads-wrong-same (r ∷ rs) = rw (head-wrong-same r, heads-wrong-same rs)

  pub text-heads-same : (text : List ℕ) → text_heads_wrong (replaced a text) ≡ text_heads_wrong text
  unfolding text_heads_wrong
  text-heads-same text = rw (opening_same text, heads-wrong-same text)

  pub glyph-styles-same : (rs : List ℕ) → glyph_styles (replaced a rs) ≡ glyph_styles rs
  glyph-styles-same [] = refl
  glyph-styles-same (r ∷ rs) = rw (same_head a r) (go (is_head r) refl (glyph-styles-same rs))
    where
      go : (x : Bool) → is_head r ≡ x → glyph_styles (replaced a rs) ≡ glyph_styles rs
          → cond x (glyph_styles (replaced a rs)) (style_of (code_replaced a r) ∷ glyph_styles (replaced a rs)) ≡ cond x (glyph_styles rs) (style_of r ∷ glyph_styles rs)
      go true h ih = ih
      go false h ih = rw (same-style a r h, ih)

  -- a test of lines that is the same for the same line holds for some of them alike
  some_same : (test : TextLine → Bool) → ((l k : TextLine) → SameLine a a l k → test l ≡ test k)
      → (rs : List ℕ) → some test (lines_from 0 (replaced a rs)) ≡ some test (lines_from 0 rs)
  some_same test same =
      lines-along a a (λ ls ks. some test ls ≡ some test ks) refl (λ l k ls ks s e. rw (same l k s, e)) 0

  line-count-same : (rs : List ℕ) → length (lines_from 0 (replaced a rs)) ≡ length (lines_from 0 rs)
  line-count-same = lines-along a a (λ ls ks. length ls ≡ length ks) refl (λ l k ls ks s e. omega (arith, e)) 0

  pub titles-wrong-same : (most : Ceilings) (titles : List ℕ) → titles_wrong most (replaced a titles) ≡ titles_wrong most titles
  unfolding titles_wrong
  titles-wrong-same most titles =
      rw (
        line-count-same titles,
        some_same (too_many_glyphs most) (λ l k s. ap (ltb most.title_glyphs) s.count) titles,
        opening_same titles,
        some_same position_three (λ l k s. rw s.head) titles,
        some_same head_zeros_set (λ l k s. rw s.head) titles,
      )

  has_title-same : (b : Block) (position : TitlePosition) (titles : List ℕ) → has_title_at b (replaced a titles) position ≡ has_title_at b titles position
  unfolding has_title_at
  has_title-same b position titles = some_same (λ (t : TextLine). title_is_at b position t.head) (λ l k s. rw s.head) titles

  pub inner-same : (b : Block) (titles : List ℕ) (area : Rect) → inner_of b (replaced a titles) area ≡ inner_of b titles area
  unfolding inner_of
  inner-same b titles area = rw (has_title-same b Top titles, has_title-same b Bottom titles)

  pub vertical_same : (b : Block) (titles : List ℕ) → vertical_space b (replaced a titles) ≡ vertical_space b titles
  unfolding vertical_space
  vertical_same b titles = rw (has_title-same b Top titles, has_title-same b Bottom titles)
