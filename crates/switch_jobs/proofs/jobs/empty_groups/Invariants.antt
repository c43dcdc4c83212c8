use Rattle.std.proofs.Common.{◌≡◌, length}
use Rattle.switch_jobs.specs.ReadinessSteps.{AreEmptyGroups, HaveRoomFor}
use Rattle.switch_jobs.proofs.jobs.empty_groups.Given as goal

abbrev pub invariant-loop-worker : goal.invariant-loop-worker
invariant-loop-worker l = record {
  count : length l.groups.items ≡ l.worker;
  empty : AreEmptyGroups l.groups.items;
  room : HaveRoomFor l.room l.groups.items;
}
