-- The count of pages: a quotient rounded up.
use Rattle.std.proofs.Common.{ℕ, zero, suc, ◌+◌, ◌-◌, ◌*◌, ◌/◌, ◌%◌, ◌<◌, ◌≡◌, min, max, ap, ◌∙◌, arith}
use Rattle.std.proofs.Math.Nat.{mul-add-div_right}
use Rattle.std.proofs.lemmas.Nat.{div-mul-add, div-add-mod'}
use borrow.Author.Tests.{ne_eqb}
use Rattle.preview_sheet.specs.PagingExtra.{pages_from}

part-rounded_up : (r h : ℕ) → r < h → (r + (h - 1)) / h ≡ min 1 r
part-rounded_up zero h below =
    let whole : zero + (h - 1) ≡ 0 * h + (h - 1) = omega arith in
    ap (λ n. n / h) whole ∙ div-mul-add 0 h (h - 1) (omega arith)
part-rounded_up (suc r) h below =
    let whole : suc r + (h - 1) ≡ 1 * h + r = omega arith in
    let one : 1 ≡ min 1 (suc r) = omega arith in
    ap (λ n. n / h) whole ∙ div-mul-add 1 h r (omega arith) ∙ one

rounded_up : (n h : ℕ) → 0 < h → (n + (h - 1)) / h ≡ n / h + min 1 (n % h)
rounded_up n h some =
    let parts : n / h * h + n % h ≡ n = div-add-mod' n h in
    let below : n % h < h = omega arith in
    let whole : n + (h - 1) ≡ n / h * h + (n % h + (h - 1)) = omega (arith, parts) in
    ap (λ m. m / h) whole ∙ mul-add-div_right some (n / h) (n % h + (h - 1)) ∙ ap (λ m. n / h + m) (part-rounded_up (n % h) h below)

pub pages_counted : (lines first height left most pages : ℕ) → (height ≡ 0 → ⊥) → left ≡ lines - first → most ≡ height
    → pages ≡ max (left / most + min 1 (left % most)) 1 → pages ≡ pages_from lines first height
unfolding pages_from
pages_counted lines first height left most pages some rest same counted =
    let rounded = rounded_up left height (omega arith) in
    let pages_at : pages ≡ max (left / height + min 1 (left % height)) 1 = rw same at counted in
    rw (ne_eqb height 0 some, ← rest, rounded) (omega (arith, pages_at))
