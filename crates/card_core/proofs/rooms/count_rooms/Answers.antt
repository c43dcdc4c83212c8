use Rattle.std.proofs.Common.{◌∙◌, ◌+◌, ◌<◌, ◌^◌, arith, refl, sym, subst, take, length, slice_index_or}
use Rattle.std.proofs.lemmas.List.{take_more, take_all}
use Rattle.std.proofs.lemmas.Option.{slice_get-get_or}
use Rattle.card_core.specs.Plans.{no_packet}
use Rattle.card_core.specs.StateSteps.{HasRooms}
use Rattle.card_core.proofs.Plenty.{few_up}
use Rattle.card_core.proofs.rooms.count_rooms.Goals as goal

pub count-requires-clause-few : goal.count-requires-clause-few
count-requires-clause-few c =
    few_up c.loop-packet.packet-index 4294967294 c.loop-packet.rooms.unicast c.loop-packet.rooms.multicast (omega arith) c.loop-packet.invariant.few

pub count-requires-clause-level : goal.count-requires-clause-level
count-requires-clause-level c =
    (c.requires.packets c.loop-packet.packet-index (slice_index_or c.args.packets.now c.loop-packet.packet-index no_packet)
    (slice_get-get_or c.args.packets.now c.loop-packet.packet-index no_packet c.loop-packet-test.true)).0

pub count-requires-clause-fan : goal.count-requires-clause-fan
count-requires-clause-fan c =
    subst (λ n. (slice_index_or c.args.packets.now c.loop-packet.packet-index no_packet).fan < 2 ^ n) (sym c.loop-packet.invariant.ports)
    (c.requires.packets c.loop-packet.packet-index (slice_index_or c.args.packets.now c.loop-packet.packet-index no_packet)
    (slice_get-get_or c.args.packets.now c.loop-packet.packet-index no_packet c.loop-packet-test.true)).1

pub loop-packet-init : goal.loop-packet-init
loop-packet-init c = record {
  ports = c.in_ok-rooms.ensures.ports;
  rooms = c.in_ok-rooms.ensures.rooms;
  few = c.in_ok-rooms.ensures.few;
}

pub loop-packet-preserved : goal.loop-packet-preserved
loop-packet-preserved c =
    let i = c.loop-packet.packet-index in
    let packets = c.args.packets.now in
    let old = c.loop-packet.rooms in
    let new = c.count.new.self in
    let ports = c.loop-packet.invariant.ports in
    let had = subst (λ n. HasRooms n (take i packets) old.unicast old.multicast) (sym ports) c.loop-packet.invariant.rooms in
    let more = c.count.ensures.rooms (take i packets) (slice_index_or packets i no_packet) refl refl had in
    record {
      ports = c.count.ensures.ports ∙ ports;
      rooms = subst (λ n. HasRooms n (take (i + 1) packets) new.unicast new.multicast) ports
          (subst (λ ps. HasRooms old.ports ps new.unicast new.multicast) (sym (take_more packets i no_packet c.loop-packet-test.true)) more);
      few = c.count.ensures.few i c.loop-packet.invariant.few;
    }

pub returns-clause-rooms : goal.returns-clause-rooms
returns-clause-rooms c =
    subst (λ ps. HasRooms c.args.n ps c.loop-packet.rooms.unicast c.loop-packet.rooms.multicast)
    (take_all c.loop-packet.packet-index c.args.packets.now c.loop-packet-test.false) c.loop-packet.invariant.rooms

pub returns-clause-few : goal.returns-clause-few
returns-clause-few c =
    few_up c.loop-packet.packet-index (length c.args.packets.now) c.loop-packet.rooms.unicast c.loop-packet.rooms.multicast
    c.loop-packet.auto.packet-index-end c.loop-packet.invariant.few
