use Rattle.std.proofs.Common.{◌≡◌, ◌*◌}
use Rattle.pointer_state.specs.Places.{AreAtPorts}
use Rattle.pointer_state.specs.CallerTables.{tables_of}
use Rattle.scheduler_c.specs.ManySlots.{number_of, AreDecided}
use Rattle.scheduler_c.specs.SchedulerSteps.{IsSlotUnder}
use Rattle.scheduler_c.proofs.many_slots.decide_all.Given as goal

abbrev pub invariant-loop-s : goal.invariant-loop-s
invariant-loop-s l = record {
  number : l.number ≡ number_of l.slot l.s;
  place : l.at ≡ l.s * l.n;
  at_ports : AreAtPorts l.p;
  ports : l.p.ports ≡ l.n;
  decided : AreDecided (IsSlotUnder l.scheduler) l.s l.n l.rounds l.slot l.rows (tables_of l.initial.p) l.feeds l.used (tables_of l.p);
}
