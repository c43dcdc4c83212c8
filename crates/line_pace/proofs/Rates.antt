-- How many whole slots a time has, with the quotient taken before the product.
use Rattle.std.proofs.Common.{◌≡◌, ◌∙◌, ℕ, ◌+◌, ◌*◌, ◌/◌, ◌%◌, ◌<◌, sym, ap, arith}
use Rattle.std.proofs.Math.Nat.{add-mul, mul_right_comm, add-mul-div_right}
use Rattle.std.proofs.lemmas.Nat.{div-add-mod'}

-- a product over a divisor, by the quotient and the rest of its first factor
pub split_div : (n m d : ℕ) → 0 < d → n / d * m + n % d * m / d ≡ n * m / d
split_div n m d some =
    let split : n * m ≡ n / d * m * d + n % d * m =
    ap (λ x. x * m) (sym (div-add-mod' n d)) ∙ add-mul (n / d * d) (n % d) m ∙ ap (λ x. x + n % d * m) (mul_right_comm (n / d) d m) in
    let turned : n * m ≡ n % d * m + n / d * m * d = omega (arith, split) in
    let quotient : n * m / d ≡ n % d * m / d + n / d * m = ap (λ x. x / d) turned ∙ add-mul-div_right (n % d * m) (n / d * m) some in
    omega (arith, quotient)
