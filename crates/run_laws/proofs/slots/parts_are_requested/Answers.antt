use Rattle.run_laws.proofs.Base.{requested}
use Rattle.run_laws.proofs.slots.parts_are_requested.Goals as goal

pub returns : goal.returns
returns c scheduler plan i t scheduling good inside = requested scheduler scheduling plan good i t inside
