-- An input longer than the buffer gives the same result, and the same output, as the part of it that the program parses.
use Prim.Native.Nat.{ℕ, ◌+◌, ◌-◌, ◌*◌, ◌%◌, ◌<◌, ◌≤◌}
use mathlib.Core.Path.{◌≡◌, refl, ap, ◌∙◌}
use mathlib.Core.Bool.{Bool, true, false, not, cond}
use mathlib.Core.List.{List}
use native.Mathlib.Omega.{arith}
use borrow.Author.Tests.{lt-ltb, le-ltb, ltb-true, ltb-false}
use lib.Dec.{eqb, ltb}
use lib.ListN.{length, take}
use lib.Seq.{length-take-le, get_or-take, take-length}
use Rattle.std.specs.Prelude.{Err}
use Rattle.refuse.specs.declared.Refusal.TheVariants.{TextLength}
use Rattle.listlines_input.specs.declared.Flaw.TheVariants.{Form, Listed}
use Rattle.listlines_input.specs.Input.{records_of, most_records, incomplete, trim_wrong, too_many, parsed_of}
use Rattle.listlines_run.specs.Printed.{printed, printed_of}
use Rattle.listlines_run.specs.CutExtra.{buffered, Cut, Kept}
use Rattle.listlines_input.proofs.Parsing.{records-count}

rest-incomplete : (input : List ℕ) → 3 ≤ length input → not (eqb ((length input - 3) % 4) 0) ≡ incomplete input
unfolding incomplete
rest-incomplete input h = simp (le-ltb (length input) 3 h)

-- with over 4,096 records, the bytes after the last whole record and the trim byte decide the refusal
long_refused : (input : List ℕ) → 3 + 4 * 4097 ≤ length input → parsed_of input ≡ cond (not (eqb ((length input - 3) % 4) 0)) (Err Form) (cond (trim_wrong input) (Err Form) (Err (Listed TextLength)))
unfolding parsed_of
long_refused input h =
    let m : too_many input ≡ true = lt-ltb most_records (length (records_of input)) (omega (arith, records-count input)) in
    rw (m, ← rest-incomplete input (omega arith))

pub cut-same :
    (input : List ℕ) (over at : ℕ) →
    buffered ≤ length input → over ≡ (length input - buffered) % 4 → Cut buffered over at → parsed_of (take at input) ≡ parsed_of input
cut-same input over at h o c =
    let l : length (take at input) ≡ at = length-take-le at input (omega arith) in
    let m : (at - 3) % 4 ≡ (length input - 3) % 4 = omega arith in
    rw (long_refused (take at input) (omega arith), long_refused input (omega arith), l, m, get_or-take at input 2 0 (omega arith))

refused_same : (a b : Bool) (s t : List ℕ) → printed (cond a (Err Form) (cond b (Err Form) (Err (Listed TextLength)))) s ≡ printed (cond a (Err Form) (cond b (Err Form) (Err (Listed TextLength)))) t
refused_same true b s t = refl
refused_same false true s t = refl
refused_same false false s t = refl

pub cut-printed-same :
    (input : List ℕ) (over at : ℕ) →
    buffered ≤ length input → over ≡ (length input - buffered) % 4 → Cut buffered over at → printed_of (take at input) ≡ printed_of input
unfolding printed_of
cut-printed-same input over at h o c =
    rw (cut-same input over at h o c, long_refused input (omega arith))
    (refused_same (not (eqb ((length input - 3) % 4) 0)) (trim_wrong input) (records_of (take at input)) (records_of input))

-- what is kept of an input gives its output
pub kept-printed-same : (input : List ℕ) (at : ℕ) (buffer : List ℕ) → Kept buffered input at buffer → printed_of (take at buffer) ≡ printed_of input
kept-printed-same input at buffer k = ap printed_of k.start ∙ go (ltb (length input) buffered) (ltb-true (length input) buffered) (ltb-false (length input) buffered)
  where
    go : (t : Bool) → (t ≡ true → length input < buffered) → (t ≡ false → buffered ≤ length input) → printed_of (take at input) ≡ printed_of input
    go true e f = ap printed_of (ap (λ (n : ℕ). take n input) (k.all (e refl)) ∙ take-length input)
    go false e f = cut-printed-same input ((length input - buffered) % 4) at (f refl) refl (k.cut (f refl))
