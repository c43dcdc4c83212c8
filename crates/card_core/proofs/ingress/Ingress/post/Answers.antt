use Rattle.std.proofs.Common.{◌∙◌, ◌+◌, ◌||◌, nat_lt, not, List, length, false, ap, sym, subst, arith}
use Rattle.slot_histories.specs.Tests.{is_empty}
use Rattle.card_core.specs.declared.plan.Planned.{Planned}
use Rattle.card_core.specs.Posts.{post_at}
use Rattle.card_core.specs.States.{State, HasSent}
use Rattle.card_core.specs.StateSteps.{next_in}
use Rattle.card_core.proofs.Posted.{may_arrive, few, next_few, posted_is, post_is}
use Rattle.card_core.specs.contracts.ingress.Ingress.{the_view}
use Rattle.card_core.proofs.ingress.Ingress.post.Goals as goal

pub enter-count-requires : goal.enter-count-requires
enter-count-requires c =
    let posted = ap (λ (b : State). b.posted) c.self.view_is ∙ c.requires.posted in
    let was = subst (HasSent (the_view c.self.inside) c.self.invariant.0) posted c.self.invariant.1 in
    may_arrive (the_view c.self.inside) c.self.invariant.0 was c.next_arrival-arrived.result
    (c.next_arrival-arrived.ensures ∙ ap (λ (ps : List Planned). next_in ps c.self.inside.next c.self.inside.slot) c.deref.ensures.value)

pub overflow_add-self-2 : goal.overflow_add-self-2
overflow_add-self-2 c =
    let posted = ap (λ (b : State). b.posted) c.self.view_is ∙ c.requires.posted in
    let was = subst (HasSent (the_view c.self.inside) c.self.invariant.0) posted c.self.invariant.1 in
    let f = few (the_view c.self.inside) c.self.invariant.0 was c.next_arrival-arrived.result c.enter-count.result
    c.enter-count.new.queues.unicast c.enter-count.new.queues.multicast
    (c.next_arrival-arrived.ensures
    ∙ ap (λ (ps : List Planned). next_in ps c.self.inside.next c.self.inside.slot) c.deref.ensures.value) c.enter-count.ensures in
    omega (arith, f.0, ap (λ (b : State). b.slot) c.self.view_is, c.requires.room)

pub overflow_add-self-3 : goal.overflow_add-self-3
overflow_add-self-3 c =
    let posted = ap (λ (b : State). b.posted) c.self.view_is ∙ c.requires.posted in
    let was = subst (HasSent (the_view c.self.inside) c.self.invariant.0) posted c.self.invariant.1 in
    let f = few (the_view c.self.inside) c.self.invariant.0 was c.next_arrival-arrived.result c.enter-count.result
    c.enter-count.new.queues.unicast c.enter-count.new.queues.multicast
    (c.next_arrival-arrived.ensures
    ∙ ap (λ (ps : List Planned). next_in ps c.self.inside.next c.self.inside.slot) c.deref.ensures.value) c.enter-count.ensures in
    omega (arith, f.1, ap (λ (b : State). b.slot) c.self.view_is, c.requires.room)

pub returns-clause-after : goal.returns-clause-after
returns-clause-after c served was =
    let old = subst (λ b. HasSent b served false) (sym c.self.view_is) was in
    rw c.row-row.ensures (posted_is
    (the_view c.self.inside) served old c.next_arrival-arrived.result c.enter-count.result
    c.enter-count.new.queues.unicast c.enter-count.new.queues.multicast
    (c.next_arrival-arrived.ensures ∙ ap (λ (ps : List Planned). next_in ps c.self.inside.next c.self.inside.slot) c.deref.ensures.value) c.enter-count.ensures)

pub returns-clause-post : goal.returns-clause-post
returns-clause-post c served was =
    let old = subst (λ b. HasSent b served false) (sym c.self.view_is) was in
    let row = c.row-row.ensures in
    let packets = c.len.ensures ∙ c.self.inside.plan.packets.ok.0 in
    let more = c.is_more.ensures ∙ (λ i. nat_lt (c.self.inside.next + c.enter-count.result.packets) (packets i) || not (is_empty (row i))) in
    (λ i. record { row = row i; cell = c.self.inside.granted; more = more i })
    ∙ post_is (the_view c.self.inside) served old c.next_arrival-arrived.result c.enter-count.result
    c.enter-count.new.queues.unicast c.enter-count.new.queues.multicast
    (c.next_arrival-arrived.ensures ∙ ap (λ (ps : List Planned). next_in ps c.self.inside.next c.self.inside.slot) c.deref.ensures.value) c.enter-count.ensures
    ∙ ap (λ (b : State). post_at b.plan served (length served)) c.self.view_is

pub invariant_of-self : goal.invariant_of-self
invariant_of-self c =
    let posted = ap (λ (b : State). b.posted) c.self.view_is ∙ c.requires.posted in
    let was = subst (HasSent (the_view c.self.inside) c.self.invariant.0) posted c.self.invariant.1 in
    (c.self.invariant.0, returns-clause-after c c.self.invariant.0 (subst (λ b. HasSent b c.self.invariant.0 false) c.self.view_is was))

pub overflow_add-self : goal.overflow_add-self
overflow_add-self c =
    let posted = ap (λ (b : State). b.posted) c.self.view_is ∙ c.requires.posted in
    let was = subst (HasSent (the_view c.self.inside) c.self.invariant.0) posted c.self.invariant.1 in
    let f = next_few (the_view c.self.inside) c.self.invariant.0 was c.next_arrival-arrived.result c.enter-count.result c.enter-count.new.queues.unicast
    c.enter-count.new.queues.multicast (c.next_arrival-arrived.ensures
    ∙ ap (λ (ps : List Planned). next_in ps c.self.inside.next c.self.inside.slot) c.deref.ensures.value) c.enter-count.ensures in
    omega (arith, f, ap (λ (b : State). b.slot) c.self.view_is, c.requires.room)
