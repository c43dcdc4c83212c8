use Rattle.std.proofs.Common.{rules, ◌≡◌, ◌∙◌, ℕ, ◌+◌, ◌<◌, ◌^◌, List, length, Option, Some, None, ap, sym, subst, arith}
use Rattle.std.specs.Vec.{with_items}
use Rattle.std.proofs.lemmas.List.{with_items_is, places}
use Rattle.std.proofs.lemmas.Option.{slice_get_within}
use Rattle.card_core.specs.declared.plan.Planned.{Planned}
use Rattle.slot_match.specs.declared.matching.Served.{Served}
use Rattle.card_core.specs.Plans.{Plan}
use Rattle.card_core.specs.StateSteps.{next_in}
use Rattle.queue_lengths.specs.Counters.{Counters, CountBefore, CountIn, arrival_in}
use Rattle.queue_lengths.specs.Steps.{MayEnter, enters_at, lengths_with}
use Rattle.queue_lengths.specs.contracts.counters.QueueLengths.{the_view}
use Rattle.queue_lengths.proofs.Entering.{packet-there, may_enter, arrival_is, entered_is, no_arrival, stays_is}
use Rattle.queue_lengths.proofs.counters.QueueLengths.arrive.Goals as goal

-- what the call found is the packet that is next in the slot
looked_at : (packets seen : List Planned) (next : ℕ) {slots slot : ℕ} {result found : Option Planned} → slots ≡ slot → result ≡ next_in seen next slot
    → seen ≡ packets → result ≡ found → next_in packets next slots ≡ found
looked_at packets seen next {slots} {slot} long is same was = ap (next_in packets next) long ∙ sym (is ∙ ap (λ ps. next_in ps next slot) same) ∙ was

-- the counters behind the reference
behind : (plan : Plan) (served : List (Option Served)) {seen now : Counters} → seen ≡ now → CountBefore plan now served → CountBefore plan seen served
behind plan served is was = subst (λ s. CountBefore plan s served) (sym is) was

pub returns-in_err-packet-clause-counts : goal.returns-in_err-packet-clause-counts
returns-in_err-packet-clause-counts c plan served was long =
    let s0 = the_view c.self.inside in
    let was0 : CountBefore plan s0 served = behind plan served c.self.view_is was in
    let next : next_in s0.packets s0.next (length served) ≡ None =
    looked_at s0.packets c.deref.result.now s0.next long c.next_arrival.ensures c.deref.ensures.value c.in_err-packet.was in
    subst (λ (s : Counters). CountIn plan s served) c.self.view_is (stays_is plan s0 served was0 next)

pub returns-in_err-packet-clause-arrival : goal.returns-in_err-packet-clause-arrival
returns-in_err-packet-clause-arrival c plan served was long =
    let s0 = the_view c.self.inside in
    let was0 : CountBefore plan s0 served = behind plan served c.self.view_is was in
    let next : next_in s0.packets s0.next (length served) ≡ None =
    looked_at s0.packets c.deref.result.now s0.next long c.next_arrival.ensures c.deref.ensures.value c.in_err-packet.was in
    let out : c.from_residual.result ≡ None = search rules in
    out ∙ no_arrival plan s0 served was0 next ∙ ap (arrival_in plan served) long

pub overflow_add-self : goal.overflow_add-self
overflow_add-self c =
    let (plan, served, was, long) = c.requires in
    let s0 = the_view c.self.inside in
    let was0 : CountBefore plan s0 served = behind plan served c.self.view_is was in
    let next : next_in s0.packets s0.next (length served) ≡ Some c.in_ok-packet.packet =
    looked_at s0.packets c.deref.result.now s0.next long c.next_arrival.ensures c.deref.ensures.value c.in_ok-packet.was in
    let inside : s0.next < length plan.packets =
    slice_get_within plan.packets s0.next c.in_ok-packet.packet (packet-there plan s0 served was0 c.in_ok-packet.packet next) in
    let few : length s0.packets < 2 ^ 32 = c.self.invariant in
    omega (arith, ap length was0.packets)

pub enter-admitted-requires : goal.enter-admitted-requires
enter-admitted-requires c =
    let (plan, served, was, long) = c.requires in
    let s0 = the_view c.self.inside in
    let was0 : CountBefore plan s0 served = behind plan served c.self.view_is was in
    let next : next_in s0.packets s0.next (length served) ≡ Some c.in_ok-packet.packet =
    looked_at s0.packets c.deref.result.now s0.next long c.next_arrival.ensures c.deref.ensures.value c.in_ok-packet.was in
    subst (λ lengths. MayEnter s0.ports s0.depth lengths c.in_ok-packet.packet) (sym c.deref_mut.ensures.value)
    (may_enter plan s0 served was0 c.in_ok-packet.packet next)

pub returns-clause-counts : goal.returns-clause-counts
returns-clause-counts c plan served was long =
    let s0 = the_view c.self.inside in
    let p = c.in_ok-packet.packet in
    let entered = c.enter-admitted.result in
    let was0 : CountBefore plan s0 served = behind plan served c.self.view_is was in
    let next : next_in s0.packets s0.next (length served) ≡ Some c.in_ok-packet.packet =
    looked_at s0.packets c.deref.result.now s0.next long c.next_arrival.ensures c.deref.ensures.value c.in_ok-packet.was in
    let test : entered ≡ enters_at s0.ports s0.depth s0.lengths p =
    c.enter-admitted.ensures.test ∙ ap (λ ls. enters_at s0.ports s0.depth ls p) c.deref_mut.ensures.value in
    let lengths : (with_items c.self.inside.lengths c.enter-admitted.new.lengths).items ≡ lengths_with s0.ports s0.lengths p entered =
    with_items_is c.self.inside.lengths c.enter-admitted.new.lengths (search (rules, places))
    ∙ c.enter-admitted.ensures.lengths ∙ ap (λ ls. lengths_with s0.ports ls p entered) c.deref_mut.ensures.value in
    subst (λ ls. CountIn plan (record s0 { next = s0.next + 1; lengths = ls }) served) (sym lengths) (entered_is plan s0 served was0 p next entered test)

pub returns-clause-arrival : goal.returns-clause-arrival
returns-clause-arrival c plan served was long =
    let s0 = the_view c.self.inside in
    let p = c.in_ok-packet.packet in
    let entered = c.enter-admitted.result in
    let was0 : CountBefore plan s0 served = behind plan served c.self.view_is was in
    let next : next_in s0.packets s0.next (length served) ≡ Some c.in_ok-packet.packet =
    looked_at s0.packets c.deref.result.now s0.next long c.next_arrival.ensures c.deref.ensures.value c.in_ok-packet.was in
    let test : entered ≡ enters_at s0.ports s0.depth s0.lengths p =
    c.enter-admitted.ensures.test ∙ ap (λ ls. enters_at s0.ports s0.depth ls p) c.deref_mut.ensures.value in
    arrival_is plan s0 served was0 p next entered test ∙ ap (arrival_in plan served) long
