-- The bounds on waiting beside one another, and beside two that are simpler to say.
use Rattle.std.proofs.Common.{◌≡◌, ℕ, ◌+◌, ◌-◌, ◌*◌, ◌/◌, ◌<◌, ◌≤◌, ap, subst, inl, inr, arith}
use Rattle.std.proofs.Math.Nat.{mul-le-mul_left}
use Rattle.std.proofs.lemmas.Bool.{cases_lt}
use Rattle.service_bound.specs.Waits.{longest_service, longest_service_in_one_round}
use Rattle.service_bound.proofs.Rank.{twice_longest}

-- what holds of no port and of each number above holds of all
by_ports : (P : ℕ → Type 0) (n : ℕ) → P 0 → ((m : ℕ) → P (m + 1)) → P n
by_ports P n none some = elim (cases_lt 0 n) [
  | inl more ↦ let e : n - 1 + 1 ≡ n = omega arith in subst P e (some (n - 1))
  | inr zero ↦ let e : 0 ≡ n = omega arith in subst P e none
]

-- twice the longest service, with no difference in it
twice_longest-plain : (m : ℕ) → twice_longest (m + 1) ≡ (m + 1) * (m * m + m + 2)
twice_longest-plain m =
    let inner : (m + 1) * (m + 1) - (m + 1) ≡ m * m + m = omega arith in
    ap (λ v. (m + 1) * (v + 2)) inner

halved : (a b : ℕ) → a ≤ b → a / 2 ≤ b / 2
halved a b less = omega arith

halved_within : (a b : ℕ) → a ≤ 2 * b → a / 2 ≤ b
halved_within a b less = omega arith

within_half : (a b : ℕ) → 2 * a ≤ b → a ≤ b / 2
within_half a b less = omega arith

pub longest-half : (n : ℕ) → longest_service n ≤ n * n * (n + 1) / 2
longest-half n = by_ports (λ n. longest_service n ≤ n * n * (n + 1) / 2) n (omega arith) (λ m.
    let scaled : (m + 1) * (m * m + m + 2) ≤ (m + 1) * (m * m + 3 * m + 2) = mul-le-mul_left (m + 1) (omega arith) in
    halved (twice_longest (m + 1)) ((m + 1) * (m + 1) * (m + 1 + 1)) (omega (arith, twice_longest-plain m, scaled)))

pub longest-cube : (n : ℕ) → longest_service n ≤ n * n * n
longest-cube n = by_ports (λ n. longest_service n ≤ n * n * n) n (omega arith) (λ m.
    let scaled : (m + 1) * (m * m + m + 2) ≤ (m + 1) * (2 * m * m + 4 * m + 2) = mul-le-mul_left (m + 1) (omega arith) in
    halved_within (twice_longest (m + 1)) ((m + 1) * (m + 1) * (m + 1)) (omega (arith, twice_longest-plain m, scaled)))

-- one round is never worse than more
pub longest_in_one-least : (n : ℕ) → 0 < n → longest_service_in_one_round n ≤ longest_service n
longest_in_one-least n some = by_ports (λ n. 0 < n → longest_service_in_one_round n ≤ longest_service n) n (λ none. omega arith) (λ k some.
    by_ports (λ k. longest_service_in_one_round (k + 1) ≤ longest_service (k + 1)) k (omega arith) (λ m.
    within_half (longest_service_in_one_round (m + 1 + 1)) (twice_longest (m + 1 + 1)) (omega (arith, twice_longest-plain (m + 1))))) some
