use Rattle.card_worker.proofs.Grouping.{member_at, all_seats}
use Rattle.card_worker.proofs.laws.disbanded_groups_agree.Goals as goal

pub returns-clause-seats : goal.returns-clause-seats
returns-clause-seats c = all_seats

pub returns-clause-members : goal.returns-clause-members
returns-clause-members c = member_at
