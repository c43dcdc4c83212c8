use Rattle.named_schedulers.specs.Named.{decision_named}
use Rattle.named_schedulers.proofs.Schedulers.{IsScheduler-named}
use Rattle.run_laws.proofs.RunEnds.{run_ends}
use Rattle.switch_run.proofs.OnePlan.{same_run}
use Rattle.switch_run.proofs.laws.each_plan_has_one_run.Goals as goal

pub returns : goal.returns
returns c = record {
  some = λ name settings table files plan planned.
      let run = run_ends (decision_named name) (IsScheduler-named name) plan planned.good in
      (run.0, record { planned = planned; ends = run.1 });
  one = λ name settings table files plan other a b first second. same_run (decision_named name) settings table files plan other a b first second;
}
