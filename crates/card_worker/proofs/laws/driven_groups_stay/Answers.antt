use Rattle.card_worker.proofs.Grouping.{AreGroups-driven}
use Rattle.card_worker.proofs.laws.driven_groups_stay.Goals as goal

pub returns : goal.returns
returns c = AreGroups-driven
