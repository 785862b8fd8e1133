-- Document 01, 'Why a call is refused': the causes of a block and its titles, in order.
use Rattle.std.specs.Prelude.{ℕ, List, [], ◌∷◌}
use Rattle.refuse.specs.declared.Ceilings.{Ceilings}
use Rattle.refuse.specs.declared.Refusal.TheVariants.{Titles, Symbol}
use Rattle.refuse.specs.Refusal.{Cause, ◌if◌}
use Rattle.refuse.specs.Causes.{titles_wrong, symbols_wrong}
use Rattle.block.specs.declared.Block.{Block}
use Rattle.block.specs.Causes.{block_symbols}

-- causes of a call without styles: 5, 7
unfoldable pub frame_causes : Ceilings → List ℕ → Block → List Cause
frame_causes most titles b =
    Titles if titles_wrong most titles
    ∷ Symbol if symbols_wrong (block_symbols b)
    ∷ []
