use Rattle.card_worker.proofs.Accepting.{accepted_next}
use Rattle.card_worker.proofs.laws.posts_are_accepted.Goals as goal

pub returns : goal.returns
returns c = accepted_next
