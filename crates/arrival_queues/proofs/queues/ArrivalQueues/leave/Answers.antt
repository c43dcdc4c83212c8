use Rattle.std.proofs.Common.{◌≡◌, ◌∙◌, ◌<◌, slice_get, ap, sym, subst, arith}
use Rattle.std.proofs.lemmas.List.{get_or-set_same}
use Rattle.arrival_queues.specs.Queues.{Queues}
use Rattle.arrival_queues.specs.FieldSteps.{QueueValue}
use Rattle.arrival_queues.proofs.Keeping.{AreKept-left, AreKept-none, arrivals-some, gone-in, gone-ports}
use Rattle.arrival_queues.proofs.Keeping.{held-some, inside-kept, length-rows, may_ask, next-below, view-left}
use Rattle.arrival_queues.proofs.queues.ArrivalQueues.leave.Goals as goal

pub invariant_of-self : goal.invariant_of-self
invariant_of-self c =
    let s = c.self.inside in
    let i_in : c.args.input < s.ports = subst (λ (all : Queues). c.args.input < all.ports) (sym c.self.view_is) c.requires.input in
    let j_in : c.args.output < s.ports = subst (λ (all : Queues). c.args.output < all.ports) (sym c.self.view_is) c.requires.output in
    let inside = inside-kept s.ports s.queueing s.depth s.queues.items c.args.input c.args.output s.rows s.held s.arrivals c.self.invariant i_in j_in in
    let here = rw c.place_of-place.ensures.value at c.index_mut.ensures.value in
    rw c.place_of-place.ensures.value
    (AreKept-none s.ports s.queueing s.depth s.queues.items c.args.input c.args.output c.index_mut.result.now s.rows s.held s.arrivals
    c.self.invariant i_in j_in
    inside here c.leave.new.self c.leave.ensures.queue c.in_err-cell.ensures.value)

pub returns-in_err-cell-clause-queues : goal.returns-in_err-cell-clause-queues
returns-in_err-cell-clause-queues c =
    let s = c.self.inside in
    let i_in : c.args.input < s.ports = subst (λ (all : Queues). c.args.input < all.ports) (sym c.self.view_is) c.requires.input in
    let j_in : c.args.output < s.ports = subst (λ (all : Queues). c.args.output < all.ports) (sym c.self.view_is) c.requires.output in
    let inside = inside-kept s.ports s.queueing s.depth s.queues.items c.args.input c.args.output s.rows s.held s.arrivals c.self.invariant i_in j_in in
    let here = rw c.place_of-place.ensures.value at c.index_mut.ensures.value in
    rw (c.place_of-place.ensures.value, ← c.self.view_is) (view-left s.ports s.queueing s.depth s.queues.items c.args.input c.args.output
    c.index_mut.result.now s.rows s.held s.arrivals c.self.invariant i_in j_in
    inside here c.leave.new.self c.leave.ensures.queue)

pub ask_no_more-requires-clause-input : goal.ask_no_more-requires-clause-input
ask_no_more-requires-clause-input c =
    let s = c.self.inside in
    let i_in : c.args.input < s.ports = subst (λ (all : Queues). c.args.input < all.ports) (sym c.self.view_is) c.requires.input in
    let j_in : c.args.output < s.ports = subst (λ (all : Queues). c.args.output < all.ports) (sym c.self.view_is) c.requires.output in
    let inside = inside-kept s.ports s.queueing s.depth s.queues.items c.args.input c.args.output s.rows s.held s.arrivals c.self.invariant i_in j_in in
    let here = rw c.place_of-place.ensures.value at c.index_mut.ensures.value in
    let own = gone-in s.ports s.queueing s.depth s.queues.items c.args.input c.args.output c.index_mut.result.now s.rows s.held s.arrivals
    c.self.invariant i_in j_in
    inside here c.in_ok-cell.cell c.in_ok-cell.ensures.value in
    omega (arith, own.input, length-rows s.ports s.queueing s.depth s.queues.items s.rows s.held s.arrivals c.self.invariant)

pub ask_no_more-requires-clause-output : goal.ask_no_more-requires-clause-output
ask_no_more-requires-clause-output c =
    let s = c.self.inside in
    let i_in : c.args.input < s.ports = subst (λ (all : Queues). c.args.input < all.ports) (sym c.self.view_is) c.requires.input in
    let j_in : c.args.output < s.ports = subst (λ (all : Queues). c.args.output < all.ports) (sym c.self.view_is) c.requires.output in
    let inside = inside-kept s.ports s.queueing s.depth s.queues.items c.args.input c.args.output s.rows s.held s.arrivals c.self.invariant i_in j_in in
    let here = rw c.place_of-place.ensures.value at c.index_mut.ensures.value in
    let own = gone-in s.ports s.queueing s.depth s.queues.items c.args.input c.args.output c.index_mut.result.now s.rows s.held s.arrivals
    c.self.invariant i_in j_in
    inside here c.in_ok-cell.cell c.in_ok-cell.ensures.value in
    omega (arith, own.output, c.self.invariant.whole.size)

pub ask_for-requires : goal.ask_for-requires
ask_for-requires c =
    let s = c.self.inside in
    let i_in : c.args.input < s.ports = subst (λ (all : Queues). c.args.input < all.ports) (sym c.self.view_is) c.requires.input in
    let j_in : c.args.output < s.ports = subst (λ (all : Queues). c.args.output < all.ports) (sym c.self.view_is) c.requires.output in
    let inside = inside-kept s.ports s.queueing s.depth s.queues.items c.args.input c.args.output s.rows s.held s.arrivals c.self.invariant i_in j_in in
    let here = rw c.place_of-place.ensures.value at c.index_mut.ensures.value in
    let found : c.index.result.now ≡ c.leave.new.self = c.index.ensures ∙ get_or-set_same s.queues.items c.place_of-place.result c.leave.new.self _
    (rw c.place_of-place.ensures.value inside) in
    let second = c.head.ensures ∙ ap (λ (queue : QueueValue). slice_get queue.cells 0) found in
    may_ask s.ports s.rows c.ask_no_more.new.self c.in_ok-cell.cell.input c.in_ok-cell.cell.output c.head.result
    (length-rows s.ports s.queueing s.depth s.queues.items s.rows s.held s.arrivals c.self.invariant) c.self.invariant.whole.size c.ask_no_more.ensures
    (next-below s.ports s.queueing s.depth s.queues.items c.args.input c.args.output c.index_mut.result.now s.rows s.held s.arrivals c.self.invariant i_in j_in
    inside here c.in_ok-cell.cell c.in_ok-cell.ensures.value c.leave.new.self c.head.result c.leave.ensures.queue second)

pub overflow_sub-self : goal.overflow_sub-self
overflow_sub-self c =
    let s = c.self.inside in
    let i_in : c.args.input < s.ports = subst (λ (all : Queues). c.args.input < all.ports) (sym c.self.view_is) c.requires.input in
    let j_in : c.args.output < s.ports = subst (λ (all : Queues). c.args.output < all.ports) (sym c.self.view_is) c.requires.output in
    let inside = inside-kept s.ports s.queueing s.depth s.queues.items c.args.input c.args.output s.rows s.held s.arrivals c.self.invariant i_in j_in in
    let here = rw c.place_of-place.ensures.value at c.index_mut.ensures.value in
    omega (
      arith,
      held-some s.ports s.queueing s.depth s.queues.items c.args.input c.args.output c.index_mut.result.now s.rows s.held s.arrivals c.self.invariant i_in j_in
          inside here c.in_ok-cell.cell c.in_ok-cell.ensures.value,
    )

pub overflow_sub-self-2 : goal.overflow_sub-self-2
overflow_sub-self-2 c =
    let s = c.self.inside in
    let i_in : c.args.input < s.ports = subst (λ (all : Queues). c.args.input < all.ports) (sym c.self.view_is) c.requires.input in
    let j_in : c.args.output < s.ports = subst (λ (all : Queues). c.args.output < all.ports) (sym c.self.view_is) c.requires.output in
    let inside = inside-kept s.ports s.queueing s.depth s.queues.items c.args.input c.args.output s.rows s.held s.arrivals c.self.invariant i_in j_in in
    let here = rw c.place_of-place.ensures.value at c.index_mut.ensures.value in
    omega (
      arith,
      c.from.ensures,
      arrivals-some s.ports s.queueing s.depth s.queues.items c.args.input c.args.output c.index_mut.result.now s.rows s.held s.arrivals
          c.self.invariant i_in j_in
          inside here c.in_ok-cell.cell c.in_ok-cell.ensures.value,
    )

pub returns-clause-queues : goal.returns-clause-queues
returns-clause-queues c =
    let s = c.self.inside in
    let i_in : c.args.input < s.ports = subst (λ (all : Queues). c.args.input < all.ports) (sym c.self.view_is) c.requires.input in
    let j_in : c.args.output < s.ports = subst (λ (all : Queues). c.args.output < all.ports) (sym c.self.view_is) c.requires.output in
    let inside = inside-kept s.ports s.queueing s.depth s.queues.items c.args.input c.args.output s.rows s.held s.arrivals c.self.invariant i_in j_in in
    let here = rw c.place_of-place.ensures.value at c.index_mut.ensures.value in
    rw (c.place_of-place.ensures.value, ← c.self.view_is) (view-left s.ports s.queueing s.depth s.queues.items c.args.input c.args.output
    c.index_mut.result.now s.rows s.held s.arrivals c.self.invariant i_in j_in
    inside here c.leave.new.self c.leave.ensures.queue)

pub returns-clause-ports : goal.returns-clause-ports
returns-clause-ports c =
    let s = c.self.inside in
    let i_in : c.args.input < s.ports = subst (λ (all : Queues). c.args.input < all.ports) (sym c.self.view_is) c.requires.input in
    let j_in : c.args.output < s.ports = subst (λ (all : Queues). c.args.output < all.ports) (sym c.self.view_is) c.requires.output in
    let inside = inside-kept s.ports s.queueing s.depth s.queues.items c.args.input c.args.output s.rows s.held s.arrivals c.self.invariant i_in j_in in
    let here = rw c.place_of-place.ensures.value at c.index_mut.ensures.value in
    rw (← c.self.view_is) (gone-ports s.ports s.queueing s.depth s.queues.items c.args.input c.args.output c.index_mut.result.now s.rows s.held
    s.arrivals c.self.invariant i_in j_in
    inside here c.in_ok-cell.cell c.in_ok-cell.ensures.value)

pub returns-clause-within : goal.returns-clause-within
returns-clause-within c =
    let s = c.self.inside in
    let i_in : c.args.input < s.ports = subst (λ (all : Queues). c.args.input < all.ports) (sym c.self.view_is) c.requires.input in
    let j_in : c.args.output < s.ports = subst (λ (all : Queues). c.args.output < all.ports) (sym c.self.view_is) c.requires.output in
    let inside = inside-kept s.ports s.queueing s.depth s.queues.items c.args.input c.args.output s.rows s.held s.arrivals c.self.invariant i_in j_in in
    let here = rw c.place_of-place.ensures.value at c.index_mut.ensures.value in
    let own = gone-in s.ports s.queueing s.depth s.queues.items c.args.input c.args.output c.index_mut.result.now s.rows s.held s.arrivals
    c.self.invariant i_in j_in
    inside here c.in_ok-cell.cell c.in_ok-cell.ensures.value in
    rw (← c.self.view_is) (own.input, own.output)

pub invariant_of-self-2 : goal.invariant_of-self-2
invariant_of-self-2 c =
    let s = c.self.inside in
    let i_in : c.args.input < s.ports = subst (λ (all : Queues). c.args.input < all.ports) (sym c.self.view_is) c.requires.input in
    let j_in : c.args.output < s.ports = subst (λ (all : Queues). c.args.output < all.ports) (sym c.self.view_is) c.requires.output in
    let inside = inside-kept s.ports s.queueing s.depth s.queues.items c.args.input c.args.output s.rows s.held s.arrivals c.self.invariant i_in j_in in
    let here = rw c.place_of-place.ensures.value at c.index_mut.ensures.value in
    let found : c.index.result.now ≡ c.leave.new.self = c.index.ensures ∙ get_or-set_same s.queues.items c.place_of-place.result c.leave.new.self _
    (rw c.place_of-place.ensures.value inside) in
    let second = c.head.ensures ∙ ap (λ (queue : QueueValue). slice_get queue.cells 0) found in
    rw (c.place_of-place.ensures.value, c.from.ensures)
    (AreKept-left s.ports s.queueing s.depth s.queues.items c.args.input c.args.output c.index_mut.result.now s.rows s.held s.arrivals
    c.self.invariant i_in j_in
    inside here c.in_ok-cell.cell c.in_ok-cell.ensures.value c.leave.new.self c.head.result c.ask_no_more.new.self
    c.ask_for.new.rows c.leave.ensures.queue second c.ask_no_more.ensures c.ask_for.ensures)
