-- Numbers, their remainders, bits and bytes.
use Rattle.std.proofs.Common.{◌%◌, ◌*◌, ◌+◌, ◌-◌, ◌/◌, ◌<◌, ◌==◌, ◌^◌, ◌∙◌, ◌≡◌, ◌≢◌, ◌≤◌, ◌⊎◌, ap, arith, false, inl, inr, nat_lt, not, suc, sym}
use Rattle.std.proofs.Common.{true, zero, ℕ}
use Rattle.std.proofs.Math.Nat.{mod-eq-sub-mod, mod-eq_of_lt, mod-lt, pow-le-pow_right}
use Rattle.std.proofs.lemmas.Bool.{cases_Bool, cases_eq, cases_lt, le-ltb, lt-ltb}
use Rattle.std.proofs.lemmas.Bool.Decides.{Decides-eqb}
use Rattle.std.proofs.lemmas.Nat.{and_mask, mod_below}
use Rattle.std.proofs.lemmas.Nat.Bits.{bit_at-lt, bit_at_and, bit_at_ones}
use Rattle.std.specs.Int.{bit_at, byte_at}

-- to be below t + 1, of a number other than t, is to be below t
pub lt_suc-other : (a t : ℕ) → a ≢ t → nat_lt a (suc t) ≡ nat_lt a t
lt_suc-other a t differ = elim (cases_lt a t) [
  | inl less ↦ lt-ltb a (suc t) (omega arith) ∙ sym (lt-ltb a t less)
  | inr le ↦ le-ltb a (suc t) (omega (arith, differ)) ∙ sym (le-ltb a t le)
]

-- n - 1 rows of n, and one more, are n rows
pub square-is : (n m : ℕ) → n ≡ m + 1 → m * n + n ≡ n * n
square-is n m e = rw e (omega arith)

-- what the test tells not to be 0 is not 0,
pub from_not_zero : (x : ℕ) → not (x == 0) ≡ true → x ≢ 0
from_not_zero x e none = absurd (let zero : (x == 0) ≡ true = (Decides-eqb x 0).1 none in let same : false ≡ true = sym (ap not zero) ∙ e in cc)

-- and the other way round
pub not_zero : (x : ℕ) → x ≢ 0 → not (x == 0) ≡ true
not_zero x some = elim (cases_Bool (x == 0)) [ inl e ↦ absurd (some ((Decides-eqb x 0).0 e)) | inr e ↦ ap not e ]

-- a byte of a number is below 256
pub byte_at-lt : (k x : ℕ) → byte_at k x < 256
byte_at-lt zero x = omega arith
byte_at-lt (suc k) x = mod-lt (x / 256 ^ suc k) (omega arith)

-- a number of at most 64 bits is below 2 ^ 64
pub below_power : (n x : ℕ) → n ≤ 64 → x < 2 ^ n → x < 2 ^ 64
below_power n x few among = let up = pow-le-pow_right {n = 2} (omega arith) {i = n} {j = 64} few in omega arith

-- two pairs of numbers are the same, or not
pub cases_pair : (k l j m : ℕ) → ((k ≡ j) × (l ≡ m)) ⊎ ((k ≡ j) × (l ≡ m) → ⊥)
cases_pair k l j m = elim (cases_eq k j) [
  | inl first ↦ elim (cases_eq l m) [ inl second ↦ inl (first, second) | inr other ↦ inr (λ p. other p.1) ]
  | inr other ↦ inr (λ p. other p.0)
]

-- what is equal to a number below n is below n
pub below_by : (n a b : ℕ) → a ≡ b → b < n → a < n
below_by n a b e h = omega arith

-- the remainder of a number that is beyond n by less than n
pub mod_once : (n a : ℕ) → n ≤ a → a < n + n → a % n ≡ a - n
mod_once n a high low = let short : a - n < n = omega arith in mod-eq-sub-mod high ∙ mod-eq_of_lt short

-- the low bits of a number are its own
pub bit_at-mod : (n k i : ℕ) → i < k → bit_at (n % 2 ^ k) i ≡ bit_at n i
bit_at-mod n k i h =
    sym (ap (λ m. bit_at m i) (and_mask n k)) ∙ bit_at_and n (2 ^ k - 1) i ∙ omega (arith, bit_at_ones k i h, bit_at-lt n i)

-- what goes to one beyond a number, modulo n, or stays below n, is below n
pub below_moved : (n after before : ℕ) (P : ℕ → Type 0) → ((i : ℕ) → P i → after ≡ (i + 1) % n) → (((i : ℕ) → P i → ⊥) → after ≡ before) → before < n
    → after < n
below_moved n after before P moves stays before_in = elim (cases_lt after n) [
  | inl below ↦ below
  | inr above ↦
      let nobody : (i : ℕ) → P i → ⊥ = λ i p.
      let there = moves i p in
      let beyond = mod_below (i + 1) n (omega arith) in
      absurd (omega arith) in
      below_by n after before (stays nobody) before_in
]
