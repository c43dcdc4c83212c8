use Rattle.std.proofs.Common.{◌+◌, ◌*◌, ◌<◌, ◌≤◌, length, sym, subst, arith}
use Rattle.std.specs.List.{between}
use Rattle.std.proofs.lemmas.Nat.{row_fits}
use Rattle.slot_match.specs.Rows.{AreWithin}
use Rattle.pointer_state.specs.CallerTables.{tables_of}
use Rattle.scheduler_c.specs.ManySlots.{IsDecided}
use Rattle.scheduler_c.specs.SchedulerSteps.{IsSlotUnder}
use Rattle.scheduler_c.proofs.Again.{places_from-tables_of}
use Rattle.scheduler_c.proofs.ManySlots.{AreDecided-none, AreDecided-next}
use Rattle.scheduler_c.proofs.many_slots.decide_all.Goals as goal

pub loop-s-init : goal.loop-s-init
loop-s-init c = record {
  number = omega (arith, c.ranges.slot);
  place = omega arith;
  at_ports = c.requires.at_ports;
  ports = c.requires.ports;
  decided = AreDecided-none (IsSlotUnder c.args.scheduler) c.args.n c.args.rounds c.args.slot c.args.rows.now
      (tables_of c.args.p.now) c.args.feeds.now c.args.used.now;
}

pub loop-s-preserved : goal.loop-s-preserved
loop-s-preserved c =
    let is_slot = IsSlotUnder c.args.scheduler in
    let s = c.loop-s.s in
    let at = c.loop-s.at in
    let n = c.args.n in
    let rows = c.args.rows.now in
    let feeds = c.loop-s.feeds in
    let used = c.loop-s.used in
    let before = c.loop-s.p in
    let inv = c.loop-s.invariant in
    let call = c.decide_tested-numbers.ensures in
    let new = c.decide_tested-numbers.new in
    let numbers = c.decide_tested-numbers.result in
    let below : s < length used = omega (arith, c.loop-s-test.true, c.loop-s.auto.used) in
    let fits : s * n + n ≤ length c.args.used.now * n = row_fits s n (length c.args.used.now) n c.loop-s-test.true (omega arith) in
    let room : at + n ≤ length feeds = omega (arith, inv.place, fits, c.loop-s.auto.feeds, c.requires.outputs) in
    let decided : IsDecided is_slot n c.args.rounds c.loop-s.number (between at (at + n) rows) (tables_of before) new.feeds numbers (tables_of new.p) =
    record {
      slot = rw (places_from-tables_of n before inv.ports) (rw (places_from-tables_of n new.p call.ports) call.slot);
      are_feeds = call.feeds.0;
      whole = call.feeds.1;
      unused = call.unused;
      enough = call.enough;
    } in
    record {
      number = omega (arith, inv.number, c.next_number-number.ensures);
      place = omega (arith, inv.place);
      at_ports = call.at_ports;
      ports = call.ports;
      decided = AreDecided-next is_slot n c.args.rounds c.args.slot rows (tables_of c.args.p.now) s at _ (tables_of before) (tables_of new.p)
          feeds new.feeds used numbers inv.decided inv.place (omega arith) below call.feeds.0.count
          (subst (λ m. IsDecided is_slot n c.args.rounds m (between at (at + n) rows) (tables_of before) new.feeds numbers
          (tables_of new.p)) inv.number decided);
    }

pub decide_tested-numbers-requires-clause-rows : goal.decide_tested-numbers-requires-clause-rows
decide_tested-numbers-requires-clause-rows c =
    subst (λ m. AreWithin c.args.n (between m (m + c.args.n) c.args.rows.now)) (sym c.loop-s.invariant.place) (c.requires.rows c.loop-s.s c.loop-s-test.true)
