use Rattle.firm_rounds.proofs.InTime.{firm_served_in_time}
use Rattle.firm_rounds.proofs.laws.firm_served.Goals as goal

pub returns : goal.returns
returns c = firm_served_in_time
