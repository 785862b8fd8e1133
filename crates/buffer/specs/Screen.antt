-- Words that the rules use: the screen of a call.
use Rattle.std.specs.Prelude.{ℕ}
use Rattle.buffer.specs.declared.Screen.{Screen}

-- the screen of this size
abbrev pub screen_of : ℕ → ℕ → Screen
screen_of columns rows = record { columns = columns; rows = rows }
