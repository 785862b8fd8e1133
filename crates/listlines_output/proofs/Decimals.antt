-- A number in decimal is the text that std writes.
use Rattle.std.proofs.Common.{ℕ, suc, ◌+◌, ◌%◌, ◌<◌, ◌≤◌, ◌≡◌, refl, length, sym, arith, lt-ltb, le-ltb}
use Rattle.std.specs.Fmt.{decimal as written}
use Rattle.std.proofs.lemmas.Fmt.{AppendsLastDigit, decimal_from_appends, length-decimal-le, length-decimal-le_succ}
use Rattle.listlines_output.specs.Output.{in_digits, decimal}

appends : AppendsLastDigit in_digits
appends =
    record {
      one = λ k n h. let same : n % 10 ≡ n = omega arith in rw (lt-ltb n 10 h, same) refl;
      more = λ k n h. rw (le-ltb n 10 h) refl;
    }

pub decimal_written : (n : ℕ) → n < 100000 → written n ≡ decimal n
unfolding decimal
decimal_written n h =
    let room : length (written n) ≤ n + 1 = length-decimal-le_succ n (omega arith) in
    sym (decimal_from_appends in_digits appends (suc n) n (omega arith) (omega arith))

pub written-short : (n : ℕ) → n < 100000 → length (written n) ≤ 5
written-short n h = length-decimal-le 5 n (omega arith) (omega arith) (omega arith)

pub ruleset decimals = (decimal_written, written-short)
