use Rattle.reference_run.specs.RunLines.{run_matches_under}
use Rattle.reference_run.proofs.Matches.{matches-more}
use Rattle.reference_run.proofs.Told.{may_follow}
use Rattle.reference_run.proofs.laws.slots_may_be_noted.Goals as goal

pub returns-clause-may : goal.returns-clause-may
returns-clause-may c scheduler plan reference t slots scheduling good countable end below is =
    (run_matches_under scheduler plan t, is.noted, may_follow scheduler plan good reference t is scheduling countable slots end below)

pub returns-clause-more : goal.returns-clause-more
returns-clause-more c scheduler plan t = matches-more scheduler plan t
