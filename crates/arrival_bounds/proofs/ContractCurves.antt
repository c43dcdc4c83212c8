-- Contracts give arrival curves.
use Rattle.std.proofs.Common.{◌≡◌, ℕ, zero, suc, ◌+◌, ◌*◌, ◌<◌, ◌≤◌, min, List, [], ◌∷◌, All, length, ap, arith}
use Rattle.std.specs.Prelude.{sum_by, fold}
use Rattle.std.specs.Int.{div_ceil}
use Rattle.std.specs.List.{range_with_len}
use Rattle.std.proofs.Math.Nat.{suc-mul, zero-mul, le-min}
use Rattle.std.proofs.lemmas.Grind.{div_ceil_times}
use Rattle.switch_plan.specs.GoodPlans.{SwitchPlan}
use Rattle.arrival_bounds.specs.Arrivals.{HasCurves, arriving_at, arriving_for}
use Rattle.arrival_bounds.specs.TrafficContracts.{Contract, Contracts, Keeps, KeepsAll, KeepsContracts, most_by, curve_of}
use Rattle.arrival_bounds.proofs.Ranges.{range_sum-parts, range_sum-fewer}

module _ (cells : ℕ → ℕ) where
  abbrev some : ℕ → ℕ → ℕ
  some t slots = sum_by cells (range_with_len t slots)

  -- several windows in a row
  windows : (contract : Contract) → Keeps cells contract → (k t : ℕ) → some t (k * contract.slots) ≤ k * contract.cells
  windows contract keeps zero t =
      let none : some t (zero * contract.slots) ≡ some t 0 = ap (some t) (zero-mul contract.slots) in
      omega (arith, none)
  windows contract keeps (suc k) t =
      let w = contract.slots in
      let all : some t (suc k * w) ≡ some t (k * w + w) = ap (some t) (suc-mul k w) in
      let cells_all = suc-mul k contract.cells in
      omega (arith, all, cells_all, range_sum-parts cells t (k * w) w, windows contract keeps k t, keeps.few (t + k * w))

  by_one : (contract : Contract) → Keeps cells contract → (t slots : ℕ) → some t slots ≤ most_by slots contract
  by_one contract keeps t slots =
      let k = div_ceil slots contract.slots in
      both (range_sum-fewer cells t slots (k * contract.slots) (div_ceil_times slots contract.slots keeps.some).0) (windows contract keeps k t) where
        both : {x y z : ℕ} → x ≤ y → y ≤ z → x ≤ z
        both p q = omega arith

  by_others : (t slots most : ℕ) (contracts : List Contract) → some t slots ≤ most → All (Keeps cells) contracts
      → some t slots ≤ fold (λ m contract. min m (most_by slots contract)) most contracts
  by_others t slots most [] few keep = few
  by_others t slots most (contract ∷ contracts) few keep =
      by_others t slots (min most (most_by slots contract)) contracts (le-min few (by_one contract (keep 0 contract (first (length contracts))) t slots))
      (λ k d below. keep (suc k) d (next k (length contracts) below)) where
        first : (n : ℕ) → 0 < suc n
        first n = omega arith

        next : (k n : ℕ) → k < n → suc k < suc n
        next k n below = omega arith

  by_all : (contracts : Contracts) → KeepsAll cells contracts → (t slots : ℕ) → some t slots ≤ curve_of contracts slots
  by_all contracts keeps t slots = by_others t slots (most_by slots contracts.first) contracts.others (by_one contracts.first keeps.first t slots) keeps.others

pub curves_of : (plan : SwitchPlan) (contracts_in contracts_out : ℕ → Contracts) → KeepsContracts plan contracts_in contracts_out
    → HasCurves plan (λ i. curve_of (contracts_in i)) (λ j. curve_of (contracts_out j))
curves_of plan contracts_in contracts_out keeps = record {
  inputs = λ i t slots inside. by_all (arriving_at plan i) (contracts_in i) (keeps.inputs i inside) t slots;
  outputs = λ j t slots inside. by_all (arriving_for plan j) (contracts_out j) (keeps.outputs j inside) t slots;
}
