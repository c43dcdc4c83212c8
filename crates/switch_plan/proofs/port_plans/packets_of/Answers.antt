use Rattle.std.proofs.Common.{◌≡◌, ◌∙◌, ◌+◌, ◌<◌, ◌≤◌, ℕ, List, length, slice_index_or, refl, ap, sym, subst, arith}
use Rattle.std.specs.Prelude.{map, All}
use Rattle.std.proofs.lemmas.List.{get_or_default}
use Rattle.std.proofs.lemmas.List.Elements.{All-nil}
use Rattle.cell_cutter.specs.Messages.{cells_of_packet}
use Rattle.line_pace.specs.declared.pace.Stamp.{Stamp}
use Rattle.pcap_records.specs.declared.capture.Stored.{Stored}
use Rattle.pcap_records.specs.Packets.{packet_in, captured_in, IsWithin}
use Rattle.switch_plan.specs.Traffic.{time_of, stamp_of, planned}
use Rattle.switch_plan.specs.CountingSteps.{IsForwardable}
use Rattle.switch_plan.proofs.Times.{no_stored, stamp_is, length-captured_in}
use Rattle.switch_plan.proofs.Arriving.{can_come}
use Rattle.switch_plan.proofs.Passing.{SoFar, so_far_next, end_slots, end_traffic, end_countable}
use Rattle.switch_plan.proofs.port_plans.packets_of.Goals as goal

-- the stamp of a packet that was read is that of the packet at its place
stamp_at : (bytes : List ℕ) (given stored : Stored) (stamp : Stamp) → given ≡ stored → IsWithin bytes stored
    → stamp.time ≡ time_of (packet_in bytes given) → stamp.cells ≡ cells_of_packet given.len → stamp ≡ stamp_of (packet_in bytes stored)
stamp_at bytes given stored stamp same within time cells =
    stamp_is bytes stored stamp within (time ∙ ap (λ s. time_of (packet_in bytes s)) same) (cells ∙ ap (λ (s : Stored). cells_of_packet s.len) same)

pub loop-k-init : goal.loop-k-init
loop-k-init c =
    let none = c.in_ok-packets.ensures.items in
    record {
      far = record {
        free_is = refl;
        low = omega arith;
        made = λ within. ap (map _) none;
        places = ap (map _) none;
        forwarded = subst (All IsForwardable) (sym none) (All-nil IsForwardable);
      };
      routes = c.new-routes.ensures;
      long = c.in_ok-packets.ensures.len;
      room = let room = c.in_ok-packets.ensures.capacity in omega arith;
    }

pub stamp_of-requires : goal.stamp_of-requires
stamp_of-requires c =
    let inside : c.loop-k.k < length c.args.capture.now.packets.items = let t = c.loop-k-test.true in omega arith in
    subst (λ (s : Stored). s.len ≤ 262144) (sym c.index.ensures) (c.requires.capture.read.short c.loop-k.k c.index.result.now inside)

pub arrival-arrival-requires-clause-packet : goal.arrival-arrival-requires-clause-packet
arrival-arrival-requires-clause-packet c =
    let capture = c.args.capture.now in
    let k = c.loop-k.k in
    let inside : k < length capture.packets.items = let t = c.loop-k-test.true in omega arith in
    let read = c.requires.capture.read in
    let same : c.index.result.now ≡ slice_index_or capture.packets.items k no_stored =
    c.index.ensures ∙ get_or_default capture.packets.items k c.index.result.now no_stored inside in
    let is = stamp_at capture.bytes.items c.index.result.now (slice_index_or capture.packets.items k no_stored) c.stamp_of.result same
    (read.within k no_stored inside) (c.stamp_of.ensures.time capture.bytes.items) c.stamp_of.ensures.cells in
    can_come c.args.pace.now capture.bytes.items (slice_index_or capture.packets.items k no_stored) c.stamp_of.result is
    (read.within k no_stored inside) (c.requires.capture.times k no_stored inside) (read.short k no_stored inside) c.stamp_of.ensures.early

pub arrival-arrival-requires-clause-free : goal.arrival-arrival-requires-clause-free
arrival-arrival-requires-clause-free c =
    let low = c.loop-k.invariant.far.low in
    let few = c.requires.capture.read.few in
    let inside = c.loop-k-test.true in
    omega arith

pub overflow_cast-k : goal.overflow_cast-k
overflow_cast-k c =
    let few = c.requires.capture.read.few in
    let inside = c.loop-k-test.true in
    omega arith

pub body-frame-requires-clause-within : goal.body-frame-requires-clause-within
body-frame-requires-clause-within c d =
    let inside : c.loop-k.k < length c.args.capture.now.packets.items = let t = c.loop-k-test.true in omega arith in
    c.requires.capture.read.within c.loop-k.k d inside

pub planned-requires : goal.planned-requires
planned-requires c =
    let capture = c.args.capture.now in
    let k = c.loop-k.k in
    let inside : k < length capture.packets.items = let t = c.loop-k-test.true in omega arith in
    ap length (c.body-frame.ensures.place c.index.result.now ∙ ap (captured_in capture.bytes.items) (sym c.index.ensures))
    ∙ length-captured_in capture.bytes.items c.index.result.now
    (subst (IsWithin capture.bytes.items) (sym c.index.ensures) (c.requires.capture.read.within k c.index.result.now inside))

pub push_reserved-requires : goal.push_reserved-requires
push_reserved-requires c =
    let long = c.loop-k.invariant.long in
    let room = c.loop-k.invariant.room in
    let inside = c.loop-k-test.true in
    omega arith

pub overflow_add-free : goal.overflow_add-free
overflow_add-free c =
    let low = c.loop-k.invariant.far.low in
    let few = c.requires.capture.read.few in
    let inside = c.loop-k-test.true in
    let bound = c.arrival-arrival.ensures.bound in
    omega arith

pub loop-k-preserved : goal.loop-k-preserved
loop-k-preserved c =
    let capture = c.args.capture.now in
    let k = c.loop-k.k in
    let inside : k < length capture.packets.items = let t = c.loop-k-test.true in omega arith in
    let stored = slice_index_or capture.packets.items k no_stored in
    let same : c.index.result.now ≡ stored = c.index.ensures ∙ get_or_default capture.packets.items k c.index.result.now no_stored inside in
    let frame = ap (captured_in capture.bytes.items) same ∙ sym (c.body-frame.ensures.place no_stored) in
    let long = c.loop-k.invariant.long in
    let pushed = c.push_reserved.ensures.len in
    let room = c.loop-k.invariant.room in
    let kept = c.push_reserved.ensures.capacity in
    record {
      far = subst (SoFar c.args.table.now c.args.pace.now capture (k + 1) (c.arrival-arrival.result + 1)) (sym c.push_reserved.ensures.items)
          (so_far_next c.args.table.now c.args.pace.now capture k c.loop-k.free c.arrival-arrival.result c.stamp_of.result c.planned.result
          c.loop-k.packets.items inside c.loop-k.invariant.far
          (record {
            stamp_is = stamp_at capture.bytes.items c.index.result.now stored c.stamp_of.result same (c.requires.capture.read.within k no_stored inside)
                (c.stamp_of.ensures.time capture.bytes.items) c.stamp_of.ensures.cells;
            slot_is = c.arrival-arrival.ensures.value;
            bound = c.arrival-arrival.ensures.bound;
            packet_is = λ within.
                c.planned.ensures.packet capture.bytes.items frame
                ∙ ap (λ table. planned table capture.link (packet_in capture.bytes.items c.index.result.now) c.low_bits.result) c.loop-k.invariant.routes
                ∙ ap (λ s. planned c.args.table.now capture.link (packet_in capture.bytes.items s) c.low_bits.result) same
                ∙ ap (planned c.args.table.now capture.link (packet_in capture.bytes.items stored)) (c.low_bits.ensures within);
            start = c.planned.ensures.start ∙ ap (λ (s : Stored). s.start) same;
            forwarded = c.planned.ensures.forwarded;
          }));
      routes = c.planned.ensures.table ∙ c.loop-k.invariant.routes;
      long = omega arith;
      room = omega arith;
    }

pub returns-clause-slots : goal.returns-clause-slots
returns-clause-slots c =
    let end : length c.args.capture.now.packets.items ≤ c.loop-k.k = let t = c.loop-k-test.false in omega arith in
    end_slots c.args.table.now c.args.pace.now c.args.capture.now c.loop-k.k c.loop-k.free c.loop-k.packets.items c.loop-k.invariant.far end

pub returns-clause-packets : goal.returns-clause-packets
returns-clause-packets c =
    let end : length c.args.capture.now.packets.items ≤ c.loop-k.k = let t = c.loop-k-test.false in omega arith in
    end_traffic c.args.table.now c.args.pace.now c.args.capture.now c.loop-k.k c.loop-k.free c.loop-k.packets.items c.loop-k.invariant.far end

pub returns-clause-countable : goal.returns-clause-countable
returns-clause-countable c =
    let end : length c.args.capture.now.packets.items ≤ c.loop-k.k = let t = c.loop-k-test.false in omega arith in
    end_countable c.args.table.now c.args.pace.now c.args.capture.now c.loop-k.k c.loop-k.free c.loop-k.packets.items c.loop-k.invariant.far end
    c.requires.capture.read
