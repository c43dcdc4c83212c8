use Rattle.std.proofs.Common.{◌≡◌, ◌∙◌, ◌+◌, ◌<◌, ◌^◌, [], ◌∷◌, ◌++◌, map, arith, refl, sym, ap, subst, take, length, slice_index_or}
use Rattle.std.proofs.lemmas.List.{take_more, take_all, map-append}
use Rattle.std.proofs.lemmas.Option.{slice_get-get_or}
use Rattle.card_core.specs.StateSteps.{HasRooms}
use Rattle.card_core.proofs.Plenty.{few_up}
use Rattle.output_queued.specs.Switches.{planned_of}
use Rattle.output_queued.proofs.LookedAt.{no_coming}
use Rattle.output_queued.proofs.rooms.count_rooms.Goals as goal

pub count-requires-clause-few : goal.count-requires-clause-few
count-requires-clause-few c =
    few_up c.loop-packet.packet-index 4294967294 c.loop-packet.rooms.unicast c.loop-packet.rooms.multicast (omega arith) c.loop-packet.invariant.few

pub count-requires-clause-level : goal.count-requires-clause-level
count-requires-clause-level c =
    (c.requires.packets c.loop-packet.packet-index (slice_index_or c.args.coming.now c.loop-packet.packet-index no_coming)
    (slice_get-get_or c.args.coming.now c.loop-packet.packet-index no_coming c.loop-packet-test.true)).level

pub count-requires-clause-fan : goal.count-requires-clause-fan
count-requires-clause-fan c =
    subst (λ n. (slice_index_or c.args.coming.now c.loop-packet.packet-index no_coming).fan < 2 ^ n) (sym c.loop-packet.invariant.ports)
    (c.requires.packets c.loop-packet.packet-index (slice_index_or c.args.coming.now c.loop-packet.packet-index no_coming)
    (slice_get-get_or c.args.coming.now c.loop-packet.packet-index no_coming c.loop-packet-test.true)).fan

pub loop-packet-init : goal.loop-packet-init
loop-packet-init c = record {
  ports = c.in_ok-rooms.ensures.ports;
  rooms = c.in_ok-rooms.ensures.rooms;
  few = c.in_ok-rooms.ensures.few;
}

pub loop-packet-preserved : goal.loop-packet-preserved
loop-packet-preserved c =
    let packets = c.args.coming.now in
    let i = c.loop-packet.packet-index in
    let old = c.loop-packet.rooms in
    let new = c.count.new.self in
    let ports = c.loop-packet.invariant.ports in
    let last = slice_index_or packets i no_coming in
    let before = map planned_of (take i packets) in
    let one : map planned_of (take (i + 1) packets) ≡ before ++ planned_of last ∷ [] =
    ap (map planned_of) (take_more packets i no_coming c.loop-packet-test.true) ∙ map-append planned_of (take i packets) (last ∷ []) in
    let had = subst (λ k. HasRooms k before old.unicast old.multicast) (sym ports) c.loop-packet.invariant.rooms in
    record {
      ports = c.count.ensures.ports ∙ ports;
      rooms = subst (λ ps. HasRooms c.args.n ps new.unicast new.multicast) (sym one)
          (subst (λ k. HasRooms k (before ++ planned_of last ∷ []) new.unicast new.multicast) ports
          (c.count.ensures.rooms before (planned_of last) refl refl had));
      few = c.count.ensures.few i c.loop-packet.invariant.few;
    }

pub returns-clause-rooms : goal.returns-clause-rooms
returns-clause-rooms c =
    subst (λ ps. HasRooms c.args.n (map planned_of ps) c.loop-packet.rooms.unicast c.loop-packet.rooms.multicast)
    (take_all c.loop-packet.packet-index c.args.coming.now c.loop-packet-test.false) c.loop-packet.invariant.rooms

pub returns-clause-few : goal.returns-clause-few
returns-clause-few c =
    few_up c.loop-packet.packet-index (length c.args.coming.now) c.loop-packet.rooms.unicast c.loop-packet.rooms.multicast
    c.loop-packet.auto.packet-index-end c.loop-packet.invariant.few
