use Rattle.std.proofs.Common.{ℕ, suc, ◌+◌, ◌-◌, ◌/◌, ◌%◌, ◌<◌, ◌≡◌, List, ◌++◌, sym, ap, ◌∙◌, arith, append_assoc}
use Rattle.preview_sgr.specs.SgrExtra.{code, codes}
use Rattle.preview_sgr.proofs.push_codes.Goals as goal

-- one more code is written
one_more : (all middle new : List ℕ) (bits number : ℕ) → number < 10 → middle ++ codes bits number (10 - number) ≡ all
    → new ≡ middle ++ code (bits % 2) number → new ++ codes (bits / 2) (number + 1) (10 - (number + 1)) ≡ all
one_more all middle new bits number h before w =
    let first = code (bits % 2) number in
    let rest = codes (bits / 2) (number + 1) (10 - (number + 1)) in
    let e : 10 - number ≡ suc (10 - (number + 1)) = omega arith in
    let turn : codes bits number (10 - number) ≡ first ++ rest = ap (codes bits number) e in
    ap (λ text. text ++ rest) w ∙ append_assoc middle first rest ∙ ap (λ codes. middle ++ codes) (sym turn) ∙ before

pub loop-number-preserved : goal.loop-number-preserved
loop-number-preserved g c = record {
  written = one_more _ _ _ _ _ c.loop-number-test.true c.loop-number.invariant.written c.push_code.ensures.written;
  upper_bound = omega arith;
}
