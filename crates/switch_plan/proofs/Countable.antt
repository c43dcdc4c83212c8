-- A plan of a burst is countable, and so is one within the limits of a long job.
use Rattle.std.proofs.Common.{◌<◌, ◌≤◌, ◌^◌, All, length, get_or, arith}
use Rattle.std.specs.List.{sum_by}
use Rattle.std.proofs.lemmas.List.Sums.{sum_by-le}
use Rattle.std.proofs.lemmas.Option.{slice_get-get_or}
use Rattle.std_lemmas.proofs.MappedSums.{sum_by-map}
use Rattle.card_core.specs.Plans.{Plan as CardPlan}
use Rattle.card_core.proofs.Plenty.{few_packets}
use Rattle.switch_plan.specs.Totals.{total_work}
use Rattle.switch_plan.specs.Refusals.{long_limits}
use Rattle.switch_plan.specs.GoodPlans.{SwitchPlan, IsGood, IsBurst, IsWithin, IsCountable, packets_in}
use Rattle.switch_plan.proofs.RoomBounds.{most_few}
use Rattle.switch_plan.proofs.Totalling.{greatest_few}
use Rattle.switch_plan.proofs.SlotLimits.{greatest-le}

-- each card has few packets
packets_few : (plan : SwitchPlan) → IsGood plan → IsBurst plan → sum_by length (packets_in plan) < 2 ^ 32
packets_few plan good burst =
    let each : All (λ (card : CardPlan). length card.packets ≤ 131072) plan.cards = λ k d inside.
    let found = slice_get-get_or plan.cards k d inside in
    few_packets (get_or plan.cards k d) (good.cards k (get_or plan.cards k d) found).good (burst.cards k (get_or plan.cards k d) found) in
    let most = sum_by-le (λ (card : CardPlan). length card.packets) 131072 plan.cards each in
    let sum = sum_by-map length (λ (card : CardPlan). card.packets) plan.cards in
    let ports = good.size.most in
    omega (arith, most, sum, ports)

pub burst_is_countable : (plan : SwitchPlan) → IsGood plan → IsBurst plan → IsCountable plan
burst_is_countable plan good burst =
    let few = most_few (length plan.cards) in
    let work = burst.cells in
    let is = good.max_slots in
    let greatest = greatest-le plan burst in
    record {
      packets = packets_few plan good burst;
      cells = omega (arith, few, work);
      slots = omega (arith, few, work, is, greatest);
    }

pub long_is_countable : (plan : SwitchPlan) → IsGood plan → IsWithin long_limits plan → IsCountable plan
long_is_countable plan good within =
    let packets : sum_by length (packets_in plan) ≤ 1073741824 = within.packets in
    let work : total_work (packets_in plan) ≤ 1073741824 = within.cells in
    let is = good.max_slots in
    let greatest = greatest_few 2147483648 0 (packets_in plan) (omega arith) within.slots in
    record { packets = omega (arith, packets); cells = omega (arith, work); slots = omega (arith, work, is, greatest) }
