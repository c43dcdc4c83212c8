use Rattle.std.proofs.Common.{◌≤◌, ◌+◌}
use Rattle.card_worker.specs.DrivingSteps.{AfterSome}
use Rattle.card_worker.proofs.driver.drive_all.Given as goal

abbrev pub invariant-loop-passes : goal.invariant-loop-passes
invariant-loop-passes g l = record {
  some : AfterSome l.board l.patience l.fn.members l.members l.refused l._passes l.made;
  few : l._passes ≤ 524290 + l.patience;
}
