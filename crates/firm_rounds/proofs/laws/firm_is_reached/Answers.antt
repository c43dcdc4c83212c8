use Rattle.firm_rounds.proofs.OneRoundFamily.{one_round_reached}
use Rattle.firm_rounds.proofs.laws.firm_is_reached.Goals as goal

pub returns : goal.returns
returns c = one_round_reached
