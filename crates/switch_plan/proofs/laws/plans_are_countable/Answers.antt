use Rattle.switch_plan.proofs.Countable.{burst_is_countable, long_is_countable}
use Rattle.switch_plan.proofs.laws.plans_are_countable.Goals as goal

pub returns-clause-burst : goal.returns-clause-burst
returns-clause-burst c = burst_is_countable

pub returns-clause-long : goal.returns-clause-long
returns-clause-long c = long_is_countable
