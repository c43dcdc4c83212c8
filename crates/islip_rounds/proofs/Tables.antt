-- Tables that are filled one place after another.
use Rattle.std.proofs.Common.{◌+◌, ℕ, ◌<◌, List, length, slice_index_or, slice_set, sym, subst}
use Rattle.std.proofs.Common.{arith, inl, inr, get_or-set_same, get_or-set_other}
use Rattle.std.proofs.lemmas.Bool.{cases_eq}

-- the first m places are filled
abbrev pub AreBelow : {X : Type 0} → (ℕ → X → Type 0) → X → List X → ℕ → Type 0
AreBelow P d xs m = (k : ℕ) → k < m → P k (slice_index_or xs k d)

-- place m is next
pub below-next : {X : Type 0} (P : ℕ → X → Type 0) (d : X) (xs : List X) (m : ℕ) (x : X) → m < length xs → P m x → AreBelow P d xs m
    → AreBelow P d (slice_set xs m x) (m + 1)
below-next P d xs m x m_in here below k k_in =
    elim (cases_eq k m) [
      | inl same ↦
          let at_m : P m (slice_index_or (slice_set xs m x) m d) = rw get_or-set_same here in
          subst (λ y. P y (slice_index_or (slice_set xs m x) y d)) (sym same) at_m
      | inr other ↦ rw get_or-set_other (below k (omega arith))
    ]
