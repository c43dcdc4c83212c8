use Rattle.std.proofs.Common.{◌≡◌, ◌∙◌, ◌+◌, ◌<◌, ◌≤◌, ◌^◌, ℕ, List, [], ◌∷◌, ◌++◌, arith, refl, sym, ap, subst, take, length, slice_get, slice_index_or}
use Rattle.std.proofs.lemmas.List.{take_more, take_all}
use Rattle.std.proofs.lemmas.Option.{slice_get-get_or}
use Rattle.card_core.specs.declared.plan.Planned.{Planned}
use Rattle.card_core.specs.InputQueues.{QueueRooms}
use Rattle.card_core.specs.Plans.{Plan, IsPlanned, IsGoodPlan, no_packet, plan_of}
use Rattle.card_core.specs.StateSteps.{HasRooms}
use Rattle.card_core.proofs.Plenty.{few_up}
use Rattle.descriptor_runs.proofs.inputs.rooms_of.Goals as goal

-- a packet of a good plan is well formed
planned : (plan : Plan) → IsGoodPlan plan → (items : List Planned) → items ≡ plan.packets → (k : ℕ) → k < length items
    → IsPlanned plan.ports (length plan.bytes) (slice_index_or items k no_packet)
planned plan good items same k inside =
    good.packets k (slice_index_or items k no_packet) (ap (λ xs. slice_get xs k) (sym same) ∙ slice_get-get_or items k no_packet inside)

-- one packet more is counted
next : (n m i : ℕ) (items packets : List Planned) (old new : QueueRooms) → items ≡ packets → m ≡ n → i < length items
    → ((before : List Planned) (packet : Planned) → packet.fan ≡ (slice_index_or items i no_packet).fan
    → packet.level ≡ (slice_index_or items i no_packet).level
    → HasRooms m before old.unicast old.multicast → HasRooms m (before ++ packet ∷ []) new.unicast new.multicast)
    → HasRooms n (take i packets) old.unicast old.multicast → HasRooms n (take (i + 1) packets) new.unicast new.multicast
next n m i items packets old new same is inside adds had =
    subst (λ k. HasRooms k (take (i + 1) packets) new.unicast new.multicast) is
    (subst (λ xs. HasRooms m (take (i + 1) xs) new.unicast new.multicast) same
    (subst (λ ps. HasRooms m ps new.unicast new.multicast) (sym (take_more items i no_packet inside))
    (adds (take i items) (slice_index_or items i no_packet) refl refl
    (subst (λ xs. HasRooms m (take i xs) old.unicast old.multicast) (sym same)
    (subst (λ k. HasRooms k (take i packets) old.unicast old.multicast) (sym is) had)))))

pub count-requires-clause-few : goal.count-requires-clause-few
count-requires-clause-few c =
    let few = c.requires.few in
    let same = ap length c.deref-packet-items.ensures.value in
    few_up c.loop-packet.packet-index 4294967294 c.loop-packet.rooms.unicast c.loop-packet.rooms.multicast (omega arith) c.loop-packet.invariant.few

pub count-requires-clause-level : goal.count-requires-clause-level
count-requires-clause-level c =
    (planned (plan_of c.args.plan.now) c.requires.good c.deref-packet-items.result.now c.deref-packet-items.ensures.value c.loop-packet.packet-index
    c.loop-packet-test.true).level

pub count-requires-clause-fan : goal.count-requires-clause-fan
count-requires-clause-fan c =
    subst (λ n. (slice_index_or c.deref-packet-items.result.now c.loop-packet.packet-index no_packet).fan < 2 ^ n) (sym c.loop-packet.invariant.ports)
    (planned (plan_of c.args.plan.now) c.requires.good c.deref-packet-items.result.now c.deref-packet-items.ensures.value c.loop-packet.packet-index
    c.loop-packet-test.true).fan

pub loop-packet-init : goal.loop-packet-init
loop-packet-init c = record {
  ports = c.in_ok-rooms.ensures.ports;
  rooms = c.in_ok-rooms.ensures.rooms;
  few = c.in_ok-rooms.ensures.few;
}

pub loop-packet-preserved : goal.loop-packet-preserved
loop-packet-preserved c = record {
  ports = c.count.ensures.ports ∙ c.loop-packet.invariant.ports;
  rooms = next c.args.plan.now.n c.loop-packet.rooms.ports c.loop-packet.packet-index c.deref-packet-items.result.now c.args.plan.now.packets.items
      c.loop-packet.rooms c.count.new.self c.deref-packet-items.ensures.value c.loop-packet.invariant.ports c.loop-packet-test.true c.count.ensures.rooms
      c.loop-packet.invariant.rooms;
  few = c.count.ensures.few c.loop-packet.packet-index c.loop-packet.invariant.few;
}

pub returns-clause-rooms : goal.returns-clause-rooms
returns-clause-rooms c =
    let past = subst (λ (xs : List Planned). length xs ≤ c.loop-packet.packet-index) c.deref-packet-items.ensures.value c.loop-packet-test.false in
    subst (λ ps. HasRooms c.args.plan.now.n ps c.loop-packet.rooms.unicast c.loop-packet.rooms.multicast)
    (take_all c.loop-packet.packet-index c.args.plan.now.packets.items past) c.loop-packet.invariant.rooms
