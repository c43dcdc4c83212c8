use Rattle.switch_plan.proofs.Refused.{refusal_once}
use Rattle.switch_run.proofs.OneOutcome.{not_made}
use Rattle.switch_run.proofs.OnePlan.{texts_once}
use Rattle.switch_run.proofs.laws.one_outcome.Goals as goal

pub returns : goal.returns
returns c = record { refusal = refusal_once; either = not_made; texts = texts_once }
