-- Lists by their places.
use Rattle.std.proofs.Common.{◌≡◌, ℕ, ◌<◌, List, length, slice_index_or, slice_set, inl, inr}
use Rattle.std.proofs.lemmas.Bool.{cases_eq}
use Rattle.std.proofs.lemmas.List.{get_or-set_same, get_or-set_other}

module _ {X : Type 0} where
  -- what holds of the new one at its place, and of the others, holds of all
  pub set-case : (d : X) (P : ℕ → X → Type 0) (xs : List X) (i : ℕ) (x : X) → i < length xs → P i x → (k : ℕ) → ((k ≡ i → ⊥) → P k (slice_index_or xs k d))
      → P k (slice_index_or (slice_set xs i x) k d)
  set-case d P xs i x inside here k others = elim (cases_eq k i) [
    | inl same ↦ rw (same, get_or-set_same xs i x d inside) here
    | inr other ↦ rw (get_or-set_other xs i k x d other) (others other)
  ]
