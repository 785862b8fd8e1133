-- Skipping an input to its end, read by read.
use Rattle.std.proofs.Common.{ℕ, ◌+◌, ◌-◌, ◌≡◌, ◌≢◌, ◌≤◌, ◌%◌, ◌^◌, List, ◌++◌, length, arith, ap, ◌∙◌}
use Rattle.std.specs.Prelude.{None, Some}
use Rattle.std.specs.Io.KnownBytes.{Consumes, IsAtEnd}
use Rattle.std.specs.declared.option.Option.{Option}
use Rattle.std.proofs.KnownBytes.{Consumes-trans}
use lib.ListN.{length-append}
use Rattle.read_input.specs.LosesExtra.{Loses}
use Rattle.listlines_run.specs.SkippedExtra.{Skipped, LeftOver}

-- before each turn: `over` bytes are skipped, modulo 4, and at least one a turn
pub record Skipping (old new : Option (List ℕ)) (over turns : ℕ) : Type 0 where
  pub bytes : List ℕ
  pub consumed : Consumes old new bytes
  pub same : over ≡ length bytes % 4
  pub many : turns ≤ length bytes

pub skipping_goes :
    (old middle new : Option (List ℕ)) (over turns n : ℕ) → Skipping old middle over turns → Skipped middle new n → n ≢ 0 → Skipping old new ((over + n % 4) % 4) (turns + 1)
skipping_goes old middle new over turns n s k some =
    let both : length (s.bytes ++ k.bytes) ≡ length s.bytes + length k.bytes = length-append s.bytes k.bytes in
    record {
      bytes = s.bytes ++ k.bytes;
      consumed = Consumes-trans old middle new s.bytes k.bytes s.consumed k.consumed;
      same = omega (arith, both, s.same, k.counted);
      many = omega (arith, both, s.many, k.counted, some);
    }

-- all is skipped, at the end or after the last turn
skipped_all : (bytes left rest : List ℕ) (over : ℕ) → over ≡ length bytes % 4 → left ≡ bytes ++ rest → length rest ≡ 0 → over ≡ length left % 4
skipped_all bytes left rest over e f h =
    let both : length left ≡ length bytes + length rest = ap length f ∙ length-append bytes rest in
    omega (arith, both, e, h)

pub skipping_ends_at_end : (old new : Option (List ℕ)) (over turns : ℕ) → Skipping old new over turns → IsAtEnd new → LeftOver old over
skipping_ends_at_end None new over turns s h = tt
skipping_ends_at_end (Some left) None over turns s h = absurd s.consumed
skipping_ends_at_end (Some left) (Some rest) over turns s h = λ _. skipped_all s.bytes left rest over s.same s.consumed (ap length h)

pub skipping_ends_late : (old new : Option (List ℕ)) (over turns : ℕ) → Skipping old new over turns → 2 ^ 64 - 1 ≤ turns → LeftOver old over
skipping_ends_late None new over turns s h = tt
skipping_ends_late (Some left) None over turns s h = absurd s.consumed
skipping_ends_late (Some left) (Some rest) over turns s h =
    λ few.
    let both : length left ≡ length s.bytes + length rest = ap length s.consumed ∙ length-append s.bytes rest in
    skipped_all s.bytes left rest over s.same s.consumed (omega (arith, both, s.many, h, few))

-- bytes are lost, and then more
pub loses_more : (a b c : Option (List ℕ)) (bytes : List ℕ) → Consumes a b bytes → Loses b c → Loses a c
loses_more a b c bytes h more = (bytes ++ more.0, Consumes-trans a b c bytes more.0 h more.1)
