use Rattle.std.proofs.Common.{◌+◌, ◌++◌, replicate, subst, sym, arith}
use Rattle.service_bound.specs.MeterSteps.{Meter, HasNoted}
use Rattle.service_bound.proofs.Noting.{AreBegun-noted}
use Rattle.service_bound.proofs.Skipping.{HasNoted-none, HasNoted-still, idle_slot, idle_slots}
use Rattle.service_bound.proofs.meter.WaitMeter.skip.Goals as goal

pub note_none-requires-clause-begun : goal.note_none-requires-clause-begun
note_none-requires-clause-begun c =
    let s = c.self.inside in
    let old : Meter = record { ports = s.ports; count = s.count; queues = s.queues.items } in
    AreBegun-noted old c.self.invariant.0 c.self.invariant.1

pub invariant_of-self : goal.invariant_of-self
invariant_of-self c =
    let s = c.self.inside in
    let old : Meter = record { ports = s.ports; count = s.count; queues = s.queues.items } in
    let queues = c.note_none.new.queues.items in
    let idle = idle_slots c.args.slots in (
      c.self.invariant.0 ++ replicate c.args.slots idle_slot,
      subst (λ n. HasNoted (record { ports = s.ports; count = s.count + n; queues = queues }) (c.self.invariant.0 ++ replicate c.args.slots idle_slot)) idle.0
          (HasNoted-none old queues c.self.invariant.0 (replicate c.args.slots idle_slot) c.note_none.ensures.long c.note_none.ensures.noted
          (omega (arith, idle.0)) idle.1 c.self.invariant.1),
    )

pub returns-then-slots-eq0-clause-noted : goal.returns-then-slots-eq0-clause-noted
returns-then-slots-eq0-clause-noted c = λ before more noted long none. HasNoted-still c.args.self.now before more (omega (arith, long)) noted

pub returns-clause-noted : goal.returns-clause-noted
returns-clause-noted c = λ before more noted long none.
    let s = c.self.inside in
    let old : Meter = record { ports = s.ports; count = s.count; queues = s.queues.items } in
    let queues = c.note_none.new.queues.items in
    subst (λ n. HasNoted (record { ports = s.ports; count = s.count + n; queues = queues }) (before ++ more)) long
    (HasNoted-none old queues before more c.note_none.ensures.long c.note_none.ensures.noted (omega (arith, long)) none
    (subst (λ (m : Meter). HasNoted m before) (sym c.self.view_is) noted))
