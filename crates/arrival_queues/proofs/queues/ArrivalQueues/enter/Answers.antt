use Rattle.std.proofs.Common.{◌<◌, ap, sym, subst, arith}
use Rattle.arrival_queues.specs.Queues.{Queues}
use Rattle.arrival_queues.proofs.Counts.{arrivals-le, held-le}
use Rattle.arrival_queues.proofs.Keeping.{AreKept-entered, inside-kept, length-rows, view-entered, view-full}
use Rattle.arrival_queues.proofs.queues.ArrivalQueues.enter.Goals as goal

pub returns-in_err-count-clause-queues : goal.returns-in_err-count-clause-queues
returns-in_err-count-clause-queues c =
    let s = c.self.inside in
    let i_in : c.args.input < s.ports = subst (λ (all : Queues). c.args.input < all.ports) (sym c.self.view_is) c.requires.input in
    let j_in : c.args.output < s.ports = subst (λ (all : Queues). c.args.output < all.ports) (sym c.self.view_is) c.requires.output in
    let inside = inside-kept s.ports s.queueing s.depth s.queues.items c.args.input c.args.output s.rows s.held s.arrivals c.self.invariant i_in j_in in
    let here = rw c.place_of-place.ensures.value at c.index_mut.ensures.value in
    rw (c.place_of-place.ensures.value, ← c.self.view_is)
    (view-full s.ports s.queueing s.depth s.queues.items c.args.input c.args.output c.index_mut.result.now s.rows s.held s.arrivals c.self.invariant i_in j_in
    inside here c.args.slot c.port_untold-port.result c.port_untold-port.ensures c.ranges.slot.fits c.enter.new.self c.in_err-count.ensures.full.0
    c.in_err-count.ensures.full.1)

pub ask_if_first-requires-clause-input : goal.ask_if_first-requires-clause-input
ask_if_first-requires-clause-input c =
    let s = c.self.inside in
    omega (
      arith,
      c.requires.input,
      ap (λ (all : Queues). all.ports) c.self.view_is,
      length-rows s.ports s.queueing s.depth s.queues.items s.rows s.held s.arrivals c.self.invariant,
    )

pub overflow_add-self : goal.overflow_add-self
overflow_add-self c = omega (arith, c.self.invariant.held_is, held-le _ c.self.invariant.whole)

pub overflow_add-self-2 : goal.overflow_add-self-2
overflow_add-self-2 c =
    omega (arith, c.self.invariant.arrivals_are, arrivals-le _ c.self.invariant.whole, held-le _ c.self.invariant.whole, c.from.ensures, c.ranges.slot.fits)

pub invariant_of-self-2 : goal.invariant_of-self-2
invariant_of-self-2 c =
    let s = c.self.inside in
    let i_in : c.args.input < s.ports = subst (λ (all : Queues). c.args.input < all.ports) (sym c.self.view_is) c.requires.input in
    let j_in : c.args.output < s.ports = subst (λ (all : Queues). c.args.output < all.ports) (sym c.self.view_is) c.requires.output in
    let inside = inside-kept s.ports s.queueing s.depth s.queues.items c.args.input c.args.output s.rows s.held s.arrivals c.self.invariant i_in j_in in
    let here = rw c.place_of-place.ensures.value at c.index_mut.ensures.value in
    rw (c.place_of-place.ensures.value, c.from.ensures)
    (AreKept-entered s.ports s.queueing s.depth s.queues.items c.args.input c.args.output c.index_mut.result.now s.rows s.held s.arrivals
    c.self.invariant i_in j_in
    inside here c.args.slot c.port_untold-port.result c.port_untold-port.ensures c.ranges.slot.fits c.enter.new.self c.in_ok-count.count
    c.ask_if_first.new.rows c.in_ok-count.ensures.entered c.ask_if_first.ensures.first c.ask_if_first.ensures.later)

pub returns-clause-queues : goal.returns-clause-queues
returns-clause-queues c =
    let s = c.self.inside in
    let i_in : c.args.input < s.ports = subst (λ (all : Queues). c.args.input < all.ports) (sym c.self.view_is) c.requires.input in
    let j_in : c.args.output < s.ports = subst (λ (all : Queues). c.args.output < all.ports) (sym c.self.view_is) c.requires.output in
    let inside = inside-kept s.ports s.queueing s.depth s.queues.items c.args.input c.args.output s.rows s.held s.arrivals c.self.invariant i_in j_in in
    let here = rw c.place_of-place.ensures.value at c.index_mut.ensures.value in
    rw (c.place_of-place.ensures.value, ← c.self.view_is)
    (view-entered s.ports s.queueing s.depth s.queues.items c.args.input c.args.output c.index_mut.result.now s.rows s.held s.arrivals
    c.self.invariant i_in j_in
    inside here c.args.slot c.port_untold-port.result c.port_untold-port.ensures c.ranges.slot.fits c.enter.new.self c.in_ok-count.count
    c.in_ok-count.ensures.entered)
