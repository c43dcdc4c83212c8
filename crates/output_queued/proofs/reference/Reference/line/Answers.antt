use Rattle.output_queued.specs.NotingSteps.{cards_in}
use Rattle.output_queued.proofs.Runs.{ran-behind}
use Rattle.output_queued.proofs.Noted.{cards-in-good, served-in}
use Rattle.output_queued.proofs.reference.Reference.line.Goals as goal

pub returns-clause-never_behind : goal.returns-clause-never_behind
returns-clause-never_behind c matches t noted within =
    ran-behind (cards_in c.args.self.now) matches (cards-in-good c.args.self.now matches noted) (served-in c.args.self.now matches noted) c.args.output t within
