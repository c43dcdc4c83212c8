use Rattle.job_outcomes.proofs.Tables.{table_routes}
use Rattle.job_outcomes.proofs.laws.each_table_has_routes_of_the_switch.Goals as goal

pub returns : goal.returns
returns c = table_routes
