-- The cells that a call which draws leaves: those of its drawing, or all of them if it is refused.
use Prim.Native.Nat.{ℕ, ◌/◌, ◌%◌, ◌<◌}
use mathlib.Core.Path.{◌≡◌, refl, ap, ◌∙◌}
use mathlib.Core.List.{List}
use lib.ListN.{length, get_or}
use Rattle.std.specs.Prelude.{Ok, Err}
use Rattle.refuse.specs.Refusal.{Verdict, unless_refused}
use Rattle.buffer.specs.Drawing.{Drawing, drawn}
use Rattle.buffer.proofs.Drawn.{drawn-length, drawn_cell}
use Rattle.buffer.proofs.Keeping.{Keeps}

pub left-length : (v : Verdict) (columns : ℕ) (d : Drawing) (cells : List ℕ) → length (unless_refused v (drawn columns d cells) cells) ≡ length cells
left-length (Ok _) columns d cells = drawn-length columns d cells
left-length (Err why) columns d cells = refl

-- what an accepted call's drawing keeps of cell i
pub left_keeps : (read : ℕ → ℕ) (v : Verdict) (columns : ℕ) (d : Drawing) (cells : List ℕ) (i : ℕ) → i < length cells
    → (v ≡ Ok tt → Keeps read d (i % columns) (i / columns))
    → read (get_or (unless_refused v (drawn columns d cells) cells) i 0) ≡ read (get_or cells i 0)
left_keeps read (Ok _) columns d cells i h keeps = ap read (drawn_cell columns d cells i h) ∙ keeps refl (get_or cells i 0)
left_keeps read (Err why) columns d cells i h keeps = refl
