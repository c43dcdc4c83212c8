-- Over a window without multicast no wait reaches the longest service.
use Rattle.std.proofs.Common.{ℕ, ◌<◌, List, map, arith}
use Rattle.pointer_state.specs.Places.{Places}
use Rattle.eslip_rounds.specs.Slots.{AreMoved}
use Rattle.eslip_rounds.specs.Schedules.{DecidedSlot}
use Rattle.service_bound.specs.Waits.{noted_of, longest_wait, longest_service}
use Rattle.service_bound.proofs.Rank.{twice_longest-some}
use Rattle.service_bound.proofs.AllBelow.{longest_wait-below}
use Rattle.service_bound.proofs.Falling.{IsUnicastWindow, quiet_in}
use Rattle.service_bound.proofs.ServedInTime.{longest_service-bound}

pub longest_wait-bound : (n rounds t level : ℕ) (places : Places) (slots : List DecidedSlot) → 0 < n → 0 < rounds
    → IsUnicastWindow AreMoved n rounds t level places slots → longest_wait n level (map noted_of slots) < longest_service n
longest_wait-bound n rounds t level places slots ports some is =
    let least = twice_longest-some n ports in
    longest_wait-below n level (longest_service n) (map noted_of slots) (omega (arith, least))
    (λ i j i_in j_in. (longest_service-bound n rounds level i j some i_in).waits t places slots (quiet_in AreMoved n rounds t level places slots is j))
