use Rattle.std.proofs.Common.{◌≡◌, map, take}
use Rattle.service_bound.specs.MeterSteps.{HasNoted}
use Rattle.switch_jobs.specs.JournalSteps.{noted_in}
use Rattle.switch_jobs.proofs.meters.longest_waits.Given as goal

abbrev pub invariant-loop-slot : goal.invariant-loop-slot
invariant-loop-slot l = record {
  noted : HasNoted l.meter (map noted_in (take l.slot l.journal.slots));
  ports : l.meter.ports ≡ l.journal.setup.ports;
  count : l.meter.count ≡ l.slot;
}
