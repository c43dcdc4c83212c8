use Rattle.std.proofs.Common.{refl}
use Rattle.std.proofs.lemmas.Result.{MatchResult-weaker}
use Rattle.named_schedulers.specs.Named.{decision_named}
use Rattle.named_schedulers.proofs.Schedulers.{IsScheduler-named}
use Rattle.switch_plan.specs.GoodPlans.{switch_plan_of}
use Rattle.descriptor_runs.proofs.Keeping.{keeping-same}
use Rattle.descriptor_runs.proofs.runs.run_by_descriptors.Goals as goal

pub run-requires : goal.run-requires
run-requires g c =
    let scheduling = IsScheduler-named c.args.scheduler in
    let quiet = c.quiet_decisions.ensures c.args.scheduler in (
      decision_named c.args.scheduler,
      switch_plan_of c.args.plan,
      scheduling,
      quiet,
      c.requires.good,
      c.requires.countable,
      refl,
      c.in_ok-switch.ensures.before,
      c.requires.noted,
    )

pub finish-requires : goal.finish-requires
finish-requires g c =
    let scheduling = IsScheduler-named c.args.scheduler in
    let quiet = c.quiet_decisions.ensures c.args.scheduler in
    let scheduler = decision_named c.args.scheduler in
    let plan = switch_plan_of c.args.plan in
    let run = c.in_ok-slots.ensures.run scheduler plan scheduling quiet c.requires.good refl c.in_ok-switch.ensures.before c.requires.noted in
    (scheduler, plan, scheduling, c.requires.good, c.requires.countable, run.0, run.3, c.of-numbers.ensures, run.1)

pub returns-clause-run : goal.returns-clause-run
returns-clause-run g c =
    let scheduling = IsScheduler-named c.args.scheduler in
    let quiet = c.quiet_decisions.ensures c.args.scheduler in
    let scheduler = decision_named c.args.scheduler in
    let plan = switch_plan_of c.args.plan in
    let run = c.in_ok-slots.ensures.run scheduler plan scheduling quiet c.requires.good refl c.in_ok-switch.ensures.before c.requires.noted in
    let keeps = keeping-same c.args.captures _ _ c.in_ok-switch.ensures.kept c.in_ok-slots.ensures.kept in
    MatchResult-weaker c.finish.result c.finish.ensures
    (λ outcome made. (
      c.in_ok-slots.slots,
      made c.args.captures scheduler plan scheduling c.requires.good c.requires.countable run.0 run.3 c.of-numbers.ensures run.1 keeps,
      run.2,
    ))
    (λ fault none. none)
