use Rattle.std.proofs.Common.{◌∙◌, List, Option, true, refl, ap, sym, subst, arith}
use Rattle.slot_match.specs.declared.matching.Served.{Served}
use Rattle.voq_banks.specs.Queues.{Queues as UniQueues}
use Rattle.multicast_queue.specs.FanQueues.{Queues as FanQueues}
use Rattle.slot_histories.specs.Parts.{IsPartOf}
use Rattle.card_core.specs.States.{State, HasSent}
use Rattle.card_core.specs.StateSteps.{Leaves}
use Rattle.card_core.proofs.After.{may_leave, taken, take_none, take_some, Named, named-of, cell-is, part-of}
use Rattle.card_core.specs.contracts.ingress.Ingress.{the_view}
use Rattle.card_core.proofs.ingress.Ingress.take.Goals as goal
use Rattle.card_core.proofs.ingress.Ingress.take.Goals.{in-Some, in-None}

named : (old : State) (served : List (Option Served)) → HasSent old served true → (part : Served) → IsPartOf old.row part
    → (name : _) (banks : UniQueues) (fans : FanQueues) → Leaves part.kind part name old.banks old.fans banks fans → Named old.plan part name
named old served was part may name banks fans left =
    let head = (taken old served was part name banks fans may left).1 in
    named-of old.plan was.plan part name head.cell head.of head.named

pub leave-name-requires : goal.leave-name-requires
leave-name-requires c =
    let posted = ap (λ (b : State). b.posted) c.self.view_is ∙ c.requires.posted in
    let was = subst (HasSent (the_view c.self.inside) c.self.invariant.0) posted c.self.invariant.1 in
    may_leave (the_view c.self.inside) c.self.invariant.0 was c.in-Some.part
    (part-of _ _ c.args.served c.in-Some.part c.requires.servable (sym (ap (λ (b : State). b.row) c.self.view_is)) c.in-Some.is)

places : (c : goal.After-cell_for-arg-1) → Named (the_view c.self.inside).plan c.in-Some.part c.leave-name.result
places c =
    let posted = ap (λ (b : State). b.posted) c.self.view_is ∙ c.requires.posted in
    let was = subst (HasSent (the_view c.self.inside) c.self.invariant.0) posted c.self.invariant.1 in
    let may = part-of _ _ c.args.served c.in-Some.part c.requires.servable (sym (ap (λ (b : State). b.row) c.self.view_is)) c.in-Some.is in
    named (the_view c.self.inside) c.self.invariant.0 was c.in-Some.part may c.leave-name.result c.leave-name.new.self.unicast c.leave-name.new.self.multicast
    c.leave-name.ensures

pub cell_for-requires-clause-there : goal.cell_for-requires-clause-there
cell_for-requires-clause-there c = (places c).there

pub cell_for-requires-clause-place : goal.cell_for-requires-clause-place
cell_for-requires-clause-place c = (places c).place

pub cell_for-requires-clause-len : goal.cell_for-requires-clause-len
cell_for-requires-clause-len c = (places c).len

pub cell_for-requires-clause-level : goal.cell_for-requires-clause-level
cell_for-requires-clause-level c = (places c).level

pub cell_for-requires-clause-number : goal.cell_for-requires-clause-number
cell_for-requires-clause-number c = (places c).number

pub returns-clause-after : goal.returns-clause-after
returns-clause-after c before was =
    let old = subst (λ b. HasSent b before true) (sym c.self.view_is) was in
    elim c.match-served.branch [
      | in-Some w ↦
          let may = part-of _ _ c.args.served w.in-Some.part c.requires.servable (sym (ap (λ (b : State). b.row) c.self.view_is)) w.in-Some.is in
          let name = w.leave-name.result in
          let at = named (the_view c.self.inside) before old w.in-Some.part may name
          w.leave-name.new.self.unicast w.leave-name.new.self.multicast w.leave-name.ensures in
          let cell = w.cell_for.ensures ∙ cell-is (the_view c.self.inside).plan w.in-Some.part name _ refl at.queue in
          rw (w.in-Some.is, w.self-is, w.self-inside-is, cell)
          (take_some (the_view c.self.inside) before old w.in-Some.part name w.leave-name.new.self.unicast
          w.leave-name.new.self.multicast may w.leave-name.ensures)
      | in-None w ↦ rw (w.in-None.is, w.self-is, w.self-inside-is) (take_none (the_view c.self.inside) before old)
    ]

pub invariant_of-self : goal.invariant_of-self
invariant_of-self c =
    let posted = ap (λ (b : State). b.posted) c.self.view_is ∙ c.requires.posted in
    let was = subst (HasSent (the_view c.self.inside) c.self.invariant.0) posted c.self.invariant.1 in
    (_, returns-clause-after c c.self.invariant.0 (subst (λ b. HasSent b c.self.invariant.0 true) c.self.view_is was))

pub overflow_add-self : goal.overflow_add-self
overflow_add-self c =
    let slot = ap (λ (b : State). b.slot) c.self.view_is in
    elim c.match-served.branch [
      | in-Some w ↦ rw w.self-inside-is (omega (arith, slot, c.requires.room))
      | in-None w ↦ rw w.self-inside-is (omega (arith, slot, c.requires.room))
    ]

pub returns-clause-plan : goal.returns-clause-plan
returns-clause-plan c =
    elim c.match-served.branch [
      | in-Some w ↦ rw w.self-inside-is (ap (λ (b : State). b.plan) c.self.view_is)
      | in-None w ↦ rw w.self-inside-is (ap (λ (b : State). b.plan) c.self.view_is)
    ]
