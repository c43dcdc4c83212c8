use Rattle.card_worker.proofs.Grouping.{IsMember-new}
use Rattle.card_worker.proofs.laws.new_members_agree.Goals as goal

pub returns : goal.returns
returns c = IsMember-new
