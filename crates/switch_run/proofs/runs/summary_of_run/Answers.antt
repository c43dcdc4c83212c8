use Rattle.scheduler_names.specs.declared.names.SchedulerName.{SchedulerName}
use Rattle.std.proofs.Common.{subst, sym}
use Rattle.named_schedulers.specs.Named.{decision_named}
use Rattle.switch_plan.specs.GoodPlans.{switch_plan_of}
use Rattle.switch_run.specs.MakingSteps.{AreNumbers}
use Rattle.switch_run.proofs.BoardRuns.{within}
use Rattle.switch_run.proofs.runs.summary_of_run.Goals as goal

pub returns-in_ok-run_job-in-Islip : goal.returns-in_ok-run_job-in-Islip
returns-in_ok-run_job-in-Islip g c =
    let plan = switch_plan_of c.args.plan in
    let run = c.in_ok-run_job-in-Islip.field-0 in
    let is = c.in_ok-run_job-in-Islip.ensures.run in
    subst (λ (name : SchedulerName). AreNumbers (decision_named name) plan run.summary) (sym c.in-Islip.is)
    (record { slots = is.slots; ends = is.ends; within = within plan run is c.requires.good; are = is.summary })
