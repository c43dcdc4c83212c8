use Rattle.std.proofs.Common.{◌∙◌, ap, subst, sym}
use Rattle.switch_plan.specs.GoodPlans.{switch_plan_of}
use Rattle.named_schedulers.specs.Named.{decision_named}
use Rattle.run_notes.specs.declared.wanted.Wanted.{Wanted}
use Rattle.run_notes.specs.NotingSteps.{StopsTold}
use Rattle.run_notes.specs.Told.{told_under}
use Rattle.job_files.specs.declared.ending.Ending.{Ending}
use Rattle.switch_run.specs.MakingSteps.{StopsRun}
use Rattle.switch_run.proofs.RunsMade.{burst_of_journal, few_lines, stops_told}
use Rattle.switch_run.proofs.runs.run_plan.Goals as goal

pub make-requires-clause-burst : goal.make-requires-clause-burst
make-requires-clause-burst g c =
    burst_of_journal c.args.way.long c.args.way.wanted.journal (switch_plan_of c.args.plan) c.requires.burst c.requires.journal

pub run_noted-requires-clause-noted : goal.run_noted-requires-clause-noted
run_noted-requires-clause-noted g c κs alive = c.in_ok-notes.ensures.noted (decision_named c.args.way.scheduler)

pub returns-in-Ok-clause-ran : goal.returns-in-Ok-clause-ran
returns-in-Ok-clause-ran g c =
    let scheduler = decision_named c.args.way.scheduler in
    let plan = switch_plan_of c.args.plan in
    let (slots, left, noted) = c.in_ok-outcome.ensures.run in
    let wanted_is = c.in_ok-outcome.ensures.wanted ∙ c.in_ok-notes.ensures.wanted in
    record {
      slots = slots;
      left = left;
      few = few_lines scheduler plan slots c.in_ok-outcome.outcome c.requires.good left;
      told = c.in-Ok.ensures.made scheduler plan slots left.ends noted ∙ ap (λ (w : Wanted). told_under scheduler w plan slots) wanted_is;
      small = c.in-Ok.ensures.small_journal;
      packets_small = c.in-Ok.ensures.small_packets;
    }

pub returns-in-Err-clause-stops : goal.returns-in-Err-clause-stops
returns-in-Err-clause-stops g c =
    let scheduler = decision_named c.args.way.scheduler in
    let plan = switch_plan_of c.args.plan in
    let (slots, left, noted) = c.in_ok-outcome.ensures.run in
    let wanted_is = c.in_ok-outcome.ensures.wanted ∙ c.in_ok-notes.ensures.wanted in
    let stops = subst (λ (w : Wanted). StopsTold scheduler w c.args.way.long plan slots c.in-Err.fault) wanted_is
    (c.in-Err.ensures.stops scheduler plan slots left.ends noted) in
    subst (λ (ending : Ending). StopsRun scheduler plan c.args.way.wanted c.args.way.long ending) (sym c.ending_of.ensures)
    (stops_told scheduler c.args.way.wanted c.args.way.long plan slots c.in-Err.fault left.ends stops)
