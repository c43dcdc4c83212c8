use Rattle.scheduler_laws.proofs.Synchronised.{one_for_ever, one_pair_for_ever, together_at_first}
use Rattle.scheduler_laws.proofs.round_robin.rrm_matches_one_pair.Goals as goal

pub returns-clause-first : goal.returns-clause-first
returns-clause-first c n rounds t level places slots ports some = one_for_ever n rounds level some ports t places slots

pub returns-clause-one_round : goal.returns-clause-one_round
returns-clause-one_round c n t level places slots ports = one_pair_for_ever n t level ports places slots

pub returns-clause-at_first : goal.returns-clause-at_first
returns-clause-at_first c = together_at_first
