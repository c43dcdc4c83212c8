use Rattle.run_laws.proofs.Base.{places-same, decision-same, served-is}
use Rattle.run_laws.proofs.slots.slots_follow_from_the_posts.Goals as goal

pub returns-clause-places : goal.returns-clause-places
returns-clause-places c scheduler plan t = places-same scheduler plan t

pub returns-clause-decision : goal.returns-clause-decision
returns-clause-decision c scheduler plan t = decision-same scheduler plan t

pub returns-clause-served : goal.returns-clause-served
returns-clause-served c scheduler plan i t = served-is scheduler plan i t
