use Rattle.card_worker.proofs.Grouping.{AreGroups-more}
use Rattle.card_worker.proofs.laws.groups_grow.Goals as goal

pub returns : goal.returns
returns c = AreGroups-more
