use Rattle.std.proofs.Common.{length, subst}
use Rattle.switch_plan.specs.GoodPlans.{SwitchPlan}
use Rattle.run_laws.specs.Promises.{CompletesMulticast, ServesWaiting, WaitsAreShort}
use Rattle.switch_jobs.proofs.runs.run_job.Goals as goal

pub returns-clause-serves : goal.returns-clause-serves
returns-clause-serves g c =
    subst (λ (plan : SwitchPlan). ServesWaiting plan (length c.run_ready.result.journal.slots)) c.in_ok-ready.ensures c.run_ready.ensures.serves

pub returns-clause-waits : goal.returns-clause-waits
returns-clause-waits g c =
    subst (λ (plan : SwitchPlan). WaitsAreShort plan (length c.run_ready.result.journal.slots)) c.in_ok-ready.ensures c.run_ready.ensures.waits

pub returns-clause-completes : goal.returns-clause-completes
returns-clause-completes g c =
    subst (λ (plan : SwitchPlan). CompletesMulticast plan (length c.run_ready.result.journal.slots)) c.in_ok-ready.ensures c.run_ready.ensures.completes

pub returns-clause-journal : goal.returns-clause-journal
returns-clause-journal g c = c.run_ready.ensures.journal
