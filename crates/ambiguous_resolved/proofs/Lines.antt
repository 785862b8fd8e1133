-- The lines of records with each code 7 replaced: their heads are the same, and so are their glyphs as read.
use Prim.Native.Nat.{ℕ, suc}
use mathlib.Core.Path.{◌≡◌, refl, ap, ◌∙◌}
use mathlib.Core.Bool.{Bool, true, false, cond}
use mathlib.Core.List.{List, [], ◌∷◌, map}
use native.Mathlib.Omega.{arith}
use lib.ListN.{length}
use Rattle.text.specs.declared.AmbiguousWidth.{AmbiguousWidth}
use Rattle.text.specs.Record.{is_head}
use Rattle.text.specs.Line.{TextLine, numbered, until_head, lines_from, glyphs_of}
use Rattle.titles.specs.Titles.{title_read, titles_from}
use Rattle.ambiguous_resolved.specs.Replaced.{code_replaced, replaced}
use Rattle.ambiguous_resolved.proofs.Records.{head-kept, same_head, same-glyph}

-- the line `l` read by setting b has the head and the glyphs of line `k` read by setting a
pub record SameLine (a b : AmbiguousWidth) (l k : TextLine) : Type 0 where
  pub head : l.head ≡ k.head
  pub first : l.first ≡ k.first
  pub count : length l.records ≡ length k.records
  pub glyphs : (number : ℕ) → numbered b number l.records ≡ numbered a number k.records

pub same-glyphs : (a b : AmbiguousWidth) (l k : TextLine) → SameLine a b l k → glyphs_of b l ≡ glyphs_of a k
same-glyphs a b l k s = ap (λ (number : ℕ). numbered b number l.records) s.first ∙ s.glyphs k.first

module _ (a b : AmbiguousWidth) where
  until_count : (rs : List ℕ) → length (until_head (replaced a rs)) ≡ length (until_head rs)
  until_count [] = refl
  until_count (r ∷ rs) = rw (same_head a r) (go (is_head r) (until_count rs))
    where
      go : (x : Bool) → length (until_head (replaced a rs)) ≡ length (until_head rs)
          → length (cond x [] (code_replaced a r ∷ until_head (replaced a rs))) ≡ length (cond x [] (r ∷ until_head rs))
      go true ih = refl
      go false ih = omega arith

  until_glyphs : (number : ℕ) (rs : List ℕ) → numbered b number (until_head (replaced a rs)) ≡ numbered a number (until_head rs)
  until_glyphs number [] = refl
  until_glyphs number (r ∷ rs) = rw (same_head a r) (go (is_head r) refl (until_glyphs (suc number) rs))
    where
      go : (x : Bool) → is_head r ≡ x → numbered b (suc number) (until_head (replaced a rs)) ≡ numbered a (suc number) (until_head rs)
          → numbered b number (cond x [] (code_replaced a r ∷ until_head (replaced a rs))) ≡ numbered a number (cond x [] (r ∷ until_head rs))
      go true h ih = refl
      go false h ih = rw (same-glyph a r h b number, ih)

  -- induction over the lines of the same records, with each code 7 replaced and as they are
  pub lines-along : (P : List TextLine → List TextLine → Type 0) → P [] []
      → ((l k : TextLine) (ls ks : List TextLine) → SameLine a b l k → P ls ks → P (l ∷ ls) (k ∷ ks))
      → (number : ℕ) (rs : List ℕ) → P (lines_from number (replaced a rs)) (lines_from number rs)
  lines-along P none more number [] = none
  lines-along P none more number (r ∷ rs) = rw (same_head a r) (go (is_head r) refl (lines-along P none more (suc number) rs))
    where
      go : (x : Bool) → is_head r ≡ x → P (lines_from (suc number) (replaced a rs)) (lines_from (suc number) rs)
          → P (cond x (record { head = code_replaced a r; first = suc number; records = until_head (replaced a rs) } ∷ lines_from (suc number) (replaced a rs)) (lines_from (suc number) (replaced a rs)))
          (cond x (record { head = r; first = suc number; records = until_head rs } ∷ lines_from (suc number) rs) (lines_from (suc number) rs))
      go true h ih =
          more _ _ _ _ (record { head = head-kept a r h; first = refl; count = until_count rs; glyphs = λ n. until_glyphs n rs }) ih
      go false h ih = ih

  -- titles
  pub same-titles : (records : List ℕ) → titles_from b (replaced a records) ≡ titles_from a records
  same-titles records =
      lines-along (λ ls ks. map (title_read b) ls ≡ map (title_read a) ks) refl
      (λ l k ls ks s e. rw (s.head, s.glyphs 0, e)) 0 records
