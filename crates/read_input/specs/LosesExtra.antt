-- Not in the papers: what a read that fails leaves of an input.
use Rattle.std.specs.Prelude.{ℕ, List}
use Rattle.std.specs.Io.KnownBytes.{Consumes}
use Rattle.std.specs.declared.option.Option.{Option}

-- an input whose bytes are known has lost the first of them, perhaps none, and has the rest left; of another input nothing is said
abbrev pub Loses : Option (List ℕ) → Option (List ℕ) → Type 0
Loses old new = (bytes : List ℕ) × Consumes old new bytes
