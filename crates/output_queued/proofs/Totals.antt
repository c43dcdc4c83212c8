-- Sums over the first numbers.
use Rattle.std.proofs.Common.{◌≡◌, ℕ, zero, suc, ◌+◌, ◌<◌, ◌≤◌, refl, ap, arith, inl, inr}
use Rattle.std.proofs.lemmas.Bool.{cases_eq}
use Rattle.output_queued.specs.Ideal.{total}

pub total-same : (f g : ℕ → ℕ) (n : ℕ) → ((i : ℕ) → i < n → f i ≡ g i) → total f n ≡ total g n
total-same f g zero same = refl
total-same f g (suc n) same =
    let rest = total-same f g n (λ i below. same i (omega arith)) in
    let here = same n (omega arith) in
    omega arith

pub total-plus : (f g : ℕ → ℕ) (n : ℕ) → total (λ i. f i + g i) n ≡ total f n + total g n
total-plus f g zero = refl
total-plus f g (suc n) = let rest = total-plus f g n in omega arith

pub total-le : (f g : ℕ → ℕ) (n : ℕ) → ((i : ℕ) → i < n → f i ≤ g i) → total f n ≤ total g n
total-le f g zero le = omega arith
total-le f g (suc n) le =
    let rest = total-le f g n (λ i below. le i (omega arith)) in
    let here = le n (omega arith) in
    omega arith

pub total-none : (f : ℕ → ℕ) (n : ℕ) → ((i : ℕ) → i < n → f i ≡ 0) → total f n ≡ 0
total-none f zero none = refl
total-none f (suc n) none =
    let rest = total-none f n (λ i below. none i (omega arith)) in
    let here = none n (omega arith) in
    omega arith

-- of terms that are some at one place only
pub total-one : (f : ℕ → ℕ) (n m : ℕ) → m < n → ((i : ℕ) → i < n → i ≡ m → f i ≡ 1) → ((i : ℕ) → i < n → (i ≡ m → ⊥) → f i ≡ 0) → total f n ≡ 1
total-one f zero m inside here others = absurd (omega arith)
total-one f (suc n) m inside here others = elim (cases_eq n m) [
  | inl is ↦
      let last = here n (omega arith) is in
      let rest = total-none f n (λ i below. others i (omega arith) (λ e. omega arith)) in
      omega arith
  | inr other ↦
      let last = others n (omega arith) other in
      let rest = total-one f n m (omega arith) (λ i below. here i (omega arith)) (λ i below. others i (omega arith)) in
      omega arith
]

-- the next one
pub total-more : (f : ℕ → ℕ) (n m : ℕ) → m ≡ n + 1 → total f m ≡ total f n + f n
total-more f n m is = let e : m ≡ suc n = omega arith in ap (total f) e
