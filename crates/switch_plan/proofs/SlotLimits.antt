-- The arrival slots of a burst are within the limit for its number of ports.
use Rattle.std.proofs.Common.{ℕ, suc, ◌<◌, ◌≤◌, max, List, [], ◌∷◌, length, arith}
use Rattle.std.specs.Prelude.{All}
use Rattle.std.specs.List.{fold}
use Rattle.card_core.specs.declared.plan.Planned.{Planned}
use Rattle.switch_plan.specs.Totals.{most_for, slots_of, greatest_slots}
use Rattle.switch_plan.specs.GoodPlans.{SwitchPlan, IsBurst, packets_in}

-- no port has more arrival slots than the greatest of these
most_slots : (ports : List (List Planned)) (start most : ℕ) → start ≤ most → All (λ packets. slots_of packets ≤ most) ports
    → fold (λ (m : ℕ) (packets : List Planned). max m (slots_of packets)) start ports ≤ most
most_slots [] start most begins each = begins
most_slots (packets ∷ ports) start most begins each =
    let here : slots_of packets ≤ most = each 0 packets (omega arith) in
    most_slots ports (max start (slots_of packets)) most (omega (arith, begins, here)) (λ k d inside. each (suc k) d (omega (arith, inside)))

pub greatest-le : (plan : SwitchPlan) → IsBurst plan → greatest_slots (packets_in plan) ≤ most_for (length plan.cards)
greatest-le plan burst = most_slots (packets_in plan) 0 (most_for (length plan.cards)) (omega arith) burst.slots

-- the limit is halved above 32 ports; that for any number of ports is `most_few` of `switch_plan`
pub most-halved : (ports : ℕ) → 32 < ports → most_for ports ≤ 65536
most-halved ports many = grind arith
