-- In a block without cause 7 each border symbol and the shadow's symbol fit a cell.
use Prim.Native.Nat.{ℕ, zero, suc, ◌<◌, ◌^◌}
use mathlib.Core.Path.{◌≡◌}
use mathlib.Core.Bool.{Bool, false}
use mathlib.Core.List.{List, [], ◌∷◌}
use native.Mathlib.Omega.{arith}
use borrow.Author.Tests.{leb-false}
use lib.ListN.{length, get_or}
use Rattle.text.specs.Lists.{some}
use Rattle.refuse.specs.Causes.{too_large, symbols_wrong}
use Rattle.text.proofs.Bools.{neither}
use Rattle.block.specs.declared.Block.{Block}
use Rattle.block.specs.declared.Effect.{Effect}
use Rattle.block.specs.declared.Effect.TheVariants.{Overlay, Symbol}
use Rattle.block.specs.declared.Shadow.{Shadow}
use Rattle.block.specs.declared.Shadow.TheVariants.{Absent, Present}
use Rattle.block.specs.Causes.{effect_symbols, shadow_symbols, border_symbols, block_symbols, SymbolsFit}
use Rattle.text.proofs.Either.{some-append}
use Rattle.shadow.specs.FittingExtra.{EffectFits, ShadowFits}

-- a test that no element of a list passes fails for the element at each index
none-at : (test : ℕ → Bool) (l : List ℕ) (i : ℕ) → some test l ≡ false → i < length l → test (get_or l i 0) ≡ false
none-at test [] i h k = absurd (omega arith)
none-at test (x ∷ l) zero h k = (neither (test x) (some test l) h).0
none-at test (x ∷ l) (suc i) h k = none-at test l i (neither (test x) (some test l) h).1 (omega arith)

-- a shadow without cause 7
effect_fits : (effect : Effect) → symbols_wrong (effect_symbols effect) ≡ false → EffectFits effect
effect_fits Overlay h = tt
effect_fits (Symbol symbol) h = leb-false 2097152 symbol (neither (too_large symbol) false h).0

shadow_fits : (shadow : Shadow) → symbols_wrong (shadow_symbols shadow) ≡ false → ShadowFits shadow
shadow_fits Absent h = tt
shadow_fits (Present effect style x y) h = effect_fits effect h

module _ (b : Block) (fit : SymbolsFit b) where
  -- no border symbol is too large, nor is the shadow's
  parts_fit : (symbols_wrong (border_symbols b.border_set) ≡ false) × (symbols_wrong (shadow_symbols b.shadow) ≡ false)
  unfolding block_symbols
  parts_fit =
      neither _ _ (rw (some-append too_large (border_symbols b.border_set) (shadow_symbols b.shadow)) at fit)

  pub shadow_symbol-fits : ShadowFits b.shadow
  shadow_symbol-fits = shadow_fits b.shadow parts_fit.1

  -- each border symbol fits a cell
  pub border-fits : (i : ℕ) → i < 8 → get_or (border_symbols b.border_set) i 0 < 2 ^ 21
  unfolding border_symbols
  border-fits i h = leb-false 2097152 _ (none-at too_large (border_symbols b.border_set) i parts_fit.0 h)
