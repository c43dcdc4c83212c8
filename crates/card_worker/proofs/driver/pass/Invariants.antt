use Rattle.std.proofs.Common.{◌≡◌, ◌≤◌, length}
use Rattle.card_worker.specs.DrivingSteps.{AfterTurns}
use Rattle.card_worker.proofs.driver.pass.Given as goal

abbrev pub invariant-loop-place : goal.invariant-loop-place
invariant-loop-place g l = record {
  turns : AfterTurns l.board l.patience l.fn.members l.fn.refused l.members l.refused l.place l.acts;
  wide : length l.refused ≡ 64;
  few : l.acts ≤ l.place;
}
