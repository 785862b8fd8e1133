-- The whole program: what it writes for the bytes that its input has left.
use Rattle.std.proofs.Common.{ℕ, ◌≡◌, ◌^◌, ◌<◌, List, [], ◌++◌, length, take, subst, ◌∙◌, OnOk, IfSome}
use Rattle.std.specs.Prelude.{None, Some, Ok, Err}
use Rattle.std.specs.Io.KnownBytes.{Appends}
use Rattle.std.specs.declared.option.Option.{Option}
use Rattle.std.specs.declared.result.Result.{Result}
use lib.Seq.{take-length}
use Rattle.listlines_run.specs.Printed.{printed_of}
use Rattle.listlines_run.specs.CutExtra.{buffered, Kept}
use Rattle.listlines_run.proofs.Cutting.{kept-printed-same}

module _ {A E : Type 0} (old new : Option (List ℕ)) (at : ℕ) (buffer printed : List ℕ) where
  pub printed_all :
      (left : Option (List ℕ)) (r : Result A E) → length buffer ≡ buffered → IfSome left (λ bytes. length bytes < 2 ^ 64 → Kept (length buffer) bytes at buffer)
      → (start whole : List ℕ) → printed ≡ whole → whole ≡ start ++ printed_of (take at buffer) → start ≡ [] → OnOk r (Appends old new printed) → OnOk r (IfSome left (λ bytes. length bytes < 2 ^ 64 → Appends old new (printed_of bytes)))
  printed_all left (Err e) n k start whole same p none w = tt
  printed_all None (Ok a) n k start whole same p none w = tt
  printed_all (Some bytes) (Ok a) n k start whole same p none w =
      λ few.
      let kept : Kept buffered bytes at buffer = subst (λ m. Kept m bytes at buffer) n (k few) in
      let from_start : whole ≡ printed_of (take at buffer) = rw none at p in
      subst (Appends old new) (same ∙ from_start ∙ kept-printed-same bytes at buffer kept) w

-- a text cut at its length
pub cut_whole : (n : ℕ) (xs ys : List ℕ) → n ≡ length xs → xs ≡ ys → take n xs ≡ ys
cut_whole n xs ys e same = rw (e, take-length xs) same
