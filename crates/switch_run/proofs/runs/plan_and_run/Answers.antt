use Rattle.std.proofs.Common.{Bool, subst, sym, ◌∙◌}
use Rattle.std.specs.Prelude.{IfErr, IfOk}
use Rattle.switch_plan.specs.GoodPlans.{switch_plan_of}
use Rattle.switch_plan.specs.ReadingSteps.{bytes_of_files}
use Rattle.named_schedulers.specs.Named.{decision_named}
use Rattle.std.proofs.lemmas.Result.{err_from_is_err_and}
use Rattle.switch_run.specs.MakingSteps.{IsRanOf, StopsRun}
use Rattle.switch_run.proofs.RunsMade.{plan_ran, plan_refused, plan_stopped}
use Rattle.switch_run.proofs.runs.plan_and_run.Goals as goal

pub returns-in_err-plan-clause-stops : goal.returns-in_err-plan-clause-stops
returns-in_err-plan-clause-stops g c =
    let failed = err_from_is_err_and c.from_residual.result c.from_residual.ensures.1 in
    rw (failed.1, failed.2)
    (plan_refused (decision_named c.args.way.scheduler) c.args.settings.now c.args.way.wanted c.args.inputs.table.items
    (bytes_of_files c.args.inputs.captures) c.in_err-plan.field-0.0 c.in_err-plan.ensures.stops)

pub run_plan-requires-clause-burst : goal.run_plan-requires-clause-burst
run_plan-requires-clause-burst g c κs alive short = c.in_ok-plan.ensures.planned.burst (sym c.requires.long ∙ short)

pub returns-clause-ran : goal.returns-clause-ran
returns-clause-ran g c =
    plan_ran (decision_named c.args.way.scheduler) c.args.settings.now c.args.way.wanted c.args.inputs.table.items
    (bytes_of_files c.args.inputs.captures) (switch_plan_of c.in_ok-plan.plan) c.run_plan.result c.in_ok-plan.ensures.planned
    (subst (λ (long : Bool). IfOk c.run_plan.result (IsRanOf (decision_named c.args.way.scheduler) (switch_plan_of c.in_ok-plan.plan) c.args.way.wanted long))
    c.requires.long c.run_plan.ensures.ran)

pub returns-clause-stops : goal.returns-clause-stops
returns-clause-stops g c =
    plan_stopped (decision_named c.args.way.scheduler) c.args.settings.now c.args.way.wanted c.args.inputs.table.items
    (bytes_of_files c.args.inputs.captures) (switch_plan_of c.in_ok-plan.plan) c.run_plan.result c.in_ok-plan.ensures.planned
    (subst (λ (long : Bool). IfErr c.run_plan.result (StopsRun (decision_named c.args.way.scheduler) (switch_plan_of c.in_ok-plan.plan) c.args.way.wanted long))
    c.requires.long c.run_plan.ensures.stops)
