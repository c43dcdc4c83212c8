-- Over a window without multicast no wait reaches the longest service for its number of rounds.
use Rattle.std.proofs.Common.{ℕ, ◌<◌, List, map, subst, inl, inr}
use Rattle.std.proofs.lemmas.Bool.Decides.{eqb_tells}
use Rattle.pointer_state.specs.Places.{Places}
use Rattle.eslip_rounds.specs.Slots.{AreMoved}
use Rattle.eslip_rounds.specs.Schedules.{DecidedSlot}
use Rattle.service_bound.specs.Waits.{noted_of, longest_wait, longest_service_by}
use Rattle.service_bound.proofs.Falling.{IsUnicastWindow}
use Rattle.service_bound.proofs.LongestWaits.{longest_wait-bound}
use Rattle.service_bound.proofs.OneRoundServed.{one_longest_wait-bound}

pub longest_wait-below_service : (n rounds t level : ℕ) (places : Places) (slots : List DecidedSlot) → 0 < n → 0 < rounds
    → IsUnicastWindow AreMoved n rounds t level places slots → longest_wait n level (map noted_of slots) < longest_service_by n rounds
longest_wait-below_service n rounds t level places slots ports some is =
    elim (eqb_tells rounds 1) [
      | inl one ↦ rw one.0 (one_longest_wait-bound n t level places slots ports (subst (λ r. IsUnicastWindow AreMoved n r t level places slots) one.1 is))
      | inr more ↦ rw more.0 (longest_wait-bound n rounds t level places slots ports some is)
    ]
