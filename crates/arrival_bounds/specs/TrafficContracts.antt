-- Traffic contracts of inputs and outputs, several for each, and the arrival curves that they give.
use Rattle.std.specs.Prelude.{ℕ, ◌*◌, ◌<◌, ◌≤◌, min, List, All, sum_by, fold}
use Rattle.std.specs.Int.{div_ceil}
use Rattle.std.specs.List.{range_with_len}
use Rattle.switch_plan.specs.GoodPlans.{SwitchPlan}
use Rattle.run_laws.specs.Runs.{ports_of}
use Rattle.arrival_bounds.specs.Arrivals.{arriving_at, arriving_for}

-- in any `slots` slots in a row at most `cells` cells arrive
pub record Contract : Type 0 where
  pub cells : ℕ
  pub slots : ℕ

-- one contract and others
pub record Contracts : Type 0 where
  pub first : Contract
  pub others : List Contract

-- what arrives, slot by slot, keeps the contract
pub record Keeps (cells : ℕ → ℕ) (contract : Contract) : Type 0 where
  pub some : 0 < contract.slots
  pub few : (t : ℕ) → sum_by cells (range_with_len t contract.slots) ≤ contract.cells

pub record KeepsAll (cells : ℕ → ℕ) (contracts : Contracts) : Type 0 where
  pub first : Keeps cells contracts.first
  pub others : All (Keeps cells) contracts.others

-- what arrives at each input and for each output keeps the contracts of its own
pub record KeepsContracts (plan : SwitchPlan) (contracts_in contracts_out : ℕ → Contracts) : Type 0 where
  pub inputs : (i : ℕ) → i < ports_of plan → KeepsAll (arriving_at plan i) (contracts_in i)
  pub outputs : (j : ℕ) → j < ports_of plan → KeepsAll (arriving_for plan j) (contracts_out j)

-- The most cells in so many slots in a row: by one contract those of as many of its windows as cover the slots, and by several the
-- least of these.
abbrev pub most_by : ℕ → Contract → ℕ
most_by slots contract = div_ceil slots contract.slots * contract.cells

abbrev pub curve_of : Contracts → ℕ → ℕ
curve_of contracts slots = fold (λ most contract. min most (most_by slots contract)) (most_by slots contracts.first) contracts.others
