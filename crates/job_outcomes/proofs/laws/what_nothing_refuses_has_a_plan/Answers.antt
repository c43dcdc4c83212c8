use Rattle.job_outcomes.proofs.Plans.{planned, refused, refused_or_planned}
use Rattle.job_outcomes.proofs.laws.what_nothing_refuses_has_a_plan.Goals as goal

pub returns : goal.returns
returns c = λ settings table files limits ports good none. elim (refused_or_planned settings limits table files ports.some ports.most good) [
  | refused fault is ↦ absurd (none fault is)
  | planned plan is ↦ (plan, is)
]
