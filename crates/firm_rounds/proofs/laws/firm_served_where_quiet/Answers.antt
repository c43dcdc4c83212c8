use Rattle.firm_rounds.proofs.InTime.{firm_quiet_served_in_time}
use Rattle.firm_rounds.proofs.laws.firm_served_where_quiet.Goals as goal

pub returns : goal.returns
returns c = firm_quiet_served_in_time
