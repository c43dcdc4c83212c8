use Rattle.service_bound.proofs.WaitsByRounds.{longest_wait-below_service}
use Rattle.service_bound.proofs.laws.waits_are_below_the_longest_service.Goals as goal

pub returns : goal.returns
returns c = λ n rounds t level places slots ports some window alone.
    longest_wait-below_service n rounds t level places slots ports some (record { window = window; alone = alone })
