use Rattle.run_laws.proofs.Base.{accepted}
use Rattle.run_laws.proofs.slots.posts_are_accepted.Goals as goal

pub returns : goal.returns
returns c scheduler plan i t scheduling good inside = accepted scheduler scheduling plan good i t inside
