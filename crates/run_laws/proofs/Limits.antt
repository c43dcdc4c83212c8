-- The slots of a good plan of a burst are within the limits of a board.
use Rattle.std.proofs.Common.{◌<◌, ◌≤◌, length, arith}
use Rattle.switch_plan.specs.GoodPlans.{SwitchPlan, IsGood, IsBurst}
use Rattle.switch_plan.proofs.RoomBounds.{most_few}
use Rattle.switch_plan.proofs.SlotLimits.{greatest-le, most-halved}

module _ (plan : SwitchPlan) (good : IsGood plan) (burst : IsBurst plan) where
  pub slots_some : 0 < plan.max_slots
  slots_some = let is = good.max_slots in omega arith

  pub slots_few : plan.max_slots ≤ 262145
  slots_few = let is = good.max_slots in let a = greatest-le plan burst in let b = burst.cells in let c = most_few (length plan.cards) in omega arith

  pub slots_halved : 32 < length plan.cards → plan.max_slots ≤ 131073
  slots_halved many = let is = good.max_slots in let a = greatest-le plan burst in let b = burst.cells in let c = most-halved (length plan.cards) many in
      omega arith
