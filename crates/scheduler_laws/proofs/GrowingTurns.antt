-- Turns: whom each slot of a cycle serves, and where the pointers are before it.
use Rattle.std.proofs.Common.{◌≡◌, ℕ, zero, suc, ◌+◌, ◌-◌, ◌%◌, ◌<◌, ◌≤◌, ◌⊎◌, refl, inl, inr, arith}
use Rattle.std.specs.Prelude.{if◌then◌else◌, nat_lt}
use Rattle.std.proofs.lemmas.Bool.{cases_lt, lt-ltb, le-ltb}
use Rattle.scheduler_laws.specs.Growth.{cycle, period, one_in}
use Rattle.scheduler_laws.proofs.Counting.{one_in-or}

-- a period has slots
pub period_some : (n m : ℕ) → 1 < n → 0 < m → 0 < period n m
period_some n m more some = let long : 1 < cycle n = omega arith in grind (arith)

-- the input that slot s of a cycle serves, and the output
abbrev pub input_at : ℕ → ℕ → ℕ
input_at n s = if nat_lt s n then s else 0

abbrev pub output_at : ℕ → ℕ → ℕ
output_at n s = s + 1 - n

-- In slots 0 to n - 1 input s and output 0, in those after them input 0 and outputs 1 to n - 1 in turn.
abbrev pub IsPair : ℕ → ℕ → ℕ → ℕ → Type 0
IsPair n s a b = ((s < n) × (a ≡ s) × (b ≡ 0)) ⊎ ((n ≤ s) × (a ≡ 0) × (b + n ≡ s + 1))

pub pair_at : (n s : ℕ) → 0 < n → IsPair n s (input_at n s) (output_at n s)
pair_at n s some = elim (cases_lt s n) [
  | inl low ↦ inl (low, rw (lt-ltb s n low) refl, omega arith)
  | inr high ↦ inr (high, rw (le-ltb s n high) refl, omega arith)
]

-- how many cells leave the queue of input i and output j in slot t
abbrev pub leaving : ℕ → ℕ → ℕ → ℕ → ℕ
leaving n zero zero t = one_in 0 (t % cycle n)
leaving n (suc i) zero t = one_in (suc i) (t % cycle n)
leaving n zero (suc j) t = one_in (n + j) (t % cycle n)
leaving n (suc i) (suc j) t = 0

-- one where these are the input and the output of the slot, and none elsewhere
abbrev pub IsLeaving : ℕ → ℕ → ℕ → ℕ → ℕ → ℕ → Type 0
IsLeaving n t a b i j = ((i ≡ a) × (j ≡ b) × (leaving n i j t ≡ 1)) ⊎ (((i ≡ a) × (j ≡ b) → ⊥) × (leaving n i j t ≡ 0))

pub leaves_pair : (n t a b i j : ℕ) → i < n → j < n → IsPair n (t % cycle n) a b → IsLeaving n t a b i j
leaves_pair n t a b zero zero i_in j_in pair = elim (one_in-or 0 (t % cycle n)) [
  | inl at ↦ let e = at.0 in elim pair [
    | inl low ↦ let p = low.1 in let q = low.2 in inl (omega arith, omega arith, at.1)
    | inr high ↦ let p = high.0 in absurd (omega arith)
  ]
  | inr off ↦ inr (
    λ same. elim pair [
      | inl low ↦ let p = low.1 in let q = same.0 in off.0 (omega arith)
      | inr high ↦ let p = high.2 in let q = same.1 in let r = high.0 in omega arith
    ],
    off.1,
  )
]
leaves_pair n t a b (suc i) zero i_in j_in pair = elim (one_in-or (suc i) (t % cycle n)) [
  | inl at ↦ let e = at.0 in elim pair [
    | inl low ↦ let p = low.1 in let q = low.2 in inl (omega arith, omega arith, at.1)
    | inr high ↦ let p = high.0 in absurd (omega arith)
  ]
  | inr off ↦ inr (
    λ same. elim pair [
      | inl low ↦ let p = low.1 in let q = same.0 in off.0 (omega arith)
      | inr high ↦ let p = high.1 in let q = same.0 in omega arith
    ],
    off.1,
  )
]
leaves_pair n t a b zero (suc j) i_in j_in pair = elim (one_in-or (n + j) (t % cycle n)) [
  | inl at ↦ let e = at.0 in elim pair [
    | inl low ↦ let p = low.0 in absurd (omega arith)
    | inr high ↦ let p = high.1 in let q = high.2 in inl (omega arith, omega arith, at.1)
  ]
  | inr off ↦ inr (
    λ same. elim pair [
      | inl low ↦ let p = low.2 in let q = same.1 in omega arith
      | inr high ↦ let p = high.2 in let q = same.1 in off.0 (omega arith)
    ],
    off.1,
  )
]
leaves_pair n t a b (suc i) (suc j) i_in j_in pair = inr (
  λ same. let q = same.0 in let r = same.1 in elim pair [
    | inl low ↦ let p = low.2 in omega arith
    | inr high ↦ let p = high.1 in omega arith
  ],
  refl,
)
