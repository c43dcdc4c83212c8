-- A square of empty sets.
use Rattle.std.proofs.Common.{◌≡◌, ℕ, List, slice_index, replicate, ap, ◌∙◌, arith, inl, inr}
use Rattle.std.proofs.lemmas.Bool.{cases_lt}
use Rattle.std.proofs.lemmas.List.{get_or-replicate, get_or_past, length-replicate}

-- a square of empty sets has no other
pub empty_square : (square : List ℕ) → square ≡ replicate 64 0 → (k : ℕ) → slice_index square k ≡ 0
empty_square square empty k =
    let none : slice_index (replicate 64 0) k ≡ 0 =
    elim (cases_lt k 64) [
      | inl inside ↦ get_or-replicate 64 k 0 0 inside
      | inr out ↦ get_or_past (replicate {A = ℕ} 64 0) k 0
          (omega (arith, length-replicate {A = ℕ} 64 0))
    ] in
    ap (λ s. slice_index s k) empty ∙ none
