-- Not in the papers: the precondition that a shadow's symbol fits a cell; cause 7 refuses the others.
use Rattle.std.specs.Prelude.{◌<◌, ◌^◌}
use Rattle.block.specs.declared.Effect.{Effect}
use Rattle.block.specs.declared.Effect.TheVariants.{Overlay, Symbol}
use Rattle.block.specs.declared.Shadow.{Shadow}
use Rattle.block.specs.declared.Shadow.TheVariants.{Absent, Present}

-- a shadow's symbol, if it has one, has at most 21 bits
abbrev pub EffectFits : Effect → Type 0
EffectFits Overlay = Unit {0}
EffectFits (Symbol symbol) = symbol < 2 ^ 21

abbrev pub ShadowFits : Shadow → Type 0
ShadowFits Absent = Unit {0}
ShadowFits (Present effect style x y) = EffectFits effect
