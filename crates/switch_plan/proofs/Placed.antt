-- The packets of one port: what the table and the line make of those of its capture.
use Rattle.std.proofs.Common.{◌≡◌, ◌∙◌, ◌≢◌, ℕ, zero, suc, ◌+◌, ◌%◌, ◌<◌, ◌≤◌, ◌==◌, ◌^◌, Bool, true, false, List, [], ◌∷◌, length, take, drop}
use Rattle.std.proofs.Common.{slice_index_or, Option, None, Some, if◌then◌else◌, refl, ap, sym, subst, arith}
use Rattle.std.specs.Prelude.{map, count_by, All, nat_lt, slice_get}
use Rattle.std.specs.List.{zip}
use Rattle.std.proofs.lemmas.Bool.Decides.{nat_tests}
use Rattle.std.proofs.lemmas.Option.{none-some, slice_get_within, get_or_from_slice_get}
use Rattle.std.proofs.lemmas.List.{same_lists, get_or_default, length-map}
use Rattle.std.proofs.lemmas.List.Sums.{sum_by-cons}
use Rattle.std.proofs.lemmas.Nat.{pow_pos}
use Rattle.std.proofs.lemmas.Simd.{map-map}
use Rattle.std.proofs.Math.ListN.{get_or-map as get_or-map_same}
use Rattle.line_pace.specs.declared.pace.Pace.{Pace}
use Rattle.line_pace.specs.Arrivals.{slots_taken}
use Rattle.pcap_records.specs.declared.link.Link.{Link}
use Rattle.pcap_records.specs.declared.capture.Capture.{Capture}
use Rattle.pcap_records.specs.declared.capture.Stored.{Stored}
use Rattle.pcap_records.specs.Packets.{Packet, captured_in, packet_in, packets_of, records_length, IsWithin}
use Rattle.pcap_records.specs.Format.{Record, packet_of}
use Rattle.forward_table.specs.declared.route_lines.Route.{Route}
use Rattle.forward_table.specs.declared.route_lines.RouteLine.{RouteLine}
use Rattle.forward_table.specs.Routes.{IsRouteOf, AreRoutesOf}
use Rattle.forward_table.specs.Routing.{route_of}
use Rattle.frame_fields.specs.Destination.{destination_of}
use Rattle.card_core.specs.declared.plan.Planned.{Planned}
use Rattle.card_core.specs.Plans.{IsPlanned, AreRising, no_packet}
use Rattle.switch_plan.specs.Traffic.{is_oversize, is_unrouted, route_for, fan_of, level_of, planned, unplaced, places_from}
use Rattle.switch_plan.specs.Totals.{slots_of}
use Rattle.switch_plan.specs.ReadingSteps.{IsCaptureOf, IsTrafficOf}
use Rattle.switch_plan.specs.CountingSteps.{IsForwardable}
use Rattle.switch_plan.specs.PortSteps.{slots_at, traffic_at, is_long}
use Rattle.std_lemmas.proofs.Mapping.{at_zip, length_zip}
use Rattle.std_lemmas.proofs.MappedSums.{count_map, count_left}
use Rattle.switch_plan.proofs.Times.{no_stored, length-captured_in}
use Rattle.switch_plan.proofs.Rising.{arrivals_rise, slots_long, rising_apart, rising_few, zip_right}
use Rattle.switch_plan.proofs.Numbers.{routed, aside_split}

-- a packet that is planned of a stored one, on a link
pub record IsFrom (table : List RouteLine) (link : Link) (bytes : List ℕ) (stored : Stored) (slot : ℕ) (packet : Planned) : Type 0 where
  pub nanos : packet.nanos ≡ stored.nanos
  pub start : packet.start ≡ stored.start
  pub len : packet.len ≡ stored.len
  pub arrival : packet.arrival ≡ slot
  pub fan : packet.fan ≡ fan_of (route_for table link (captured_in bytes stored))
  pub level : packet.level ≡ level_of (route_for table link (captured_in bytes stored))

-- a route that is kept unless the frame is too long
kept_route : (P : Option Route → Type 0) (long : Bool) (route : Option Route) → P None → P route → P (if long then None else route)
kept_route P true route none some = none
kept_route P false route none some = some

fan_within : (n : ℕ) (route : Option Route) → ((r : Route) → route ≡ Some r → IsRouteOf n r) → (fan_of route < 2 ^ n) × (level_of route < 4)
fan_within n None of = (omega (arith, pow_pos n), omega arith)
fan_within n (Some route) of = let is = of route refl in (is.fan.among, is.level)

-- the slots of a capture's traffic are those of the line
pub traffic_slots_at : (table : List RouteLine) (pace : Pace) (capture : Capture)
    → slots_of (traffic_at table pace capture) ≡ slots_taken (slots_at pace capture)
traffic_slots_at table pace capture =
    let pairs = zip (packets_of capture) (slots_at pace capture) in
    ap slots_taken
    (map-map (λ (p : Planned). p.arrival) (λ pair. planned table capture.link pair.0 pair.1) pairs
    ∙ zip_right (packets_of capture) (slots_at pace capture) (sym (slots_long pace (packets_of capture))))

-- packets that stand in a file each after the record before, the first of them at this place
starts_from : (bytes : List ℕ) (at : ℕ) (stored : List Stored) → All (IsWithin bytes) stored
    → ((k : ℕ) (d : Stored) → k < length stored → (slice_index_or stored k d).start ≡ at + records_length (take k stored))
    → map (λ (s : Stored). s.start) stored ≡ places_from at (map (packet_in bytes) stored)
starts_from bytes at [] within order = refl
starts_from bytes at (s ∷ stored) within order =
    let len = length-captured_in bytes s (within 0 s (omega arith)) in
    let first : s.start ≡ at = let o = order 0 s (omega arith) in omega arith in
    let next : (k : ℕ) (d : Stored) → k < length stored
    → (slice_index_or stored k d).start ≡ at + length (captured_in bytes s) + 16 + records_length (take k stored) =
    λ k d inside. let o = order (suc k) d (omega arith) in let c = sum_by-cons (λ (x : Stored). 16 + x.len) s (take k stored) in omega arith in
    let rest = starts_from bytes (at + length (captured_in bytes s) + 16) stored (λ k d inside. within (suc k) d (omega arith)) next in
    cc

-- packets that are planned of those of a capture, at slots of which there is one for each
module _ (ports : ℕ) (table : List RouteLine) (capture : Capture) (slots : List ℕ) (packets : List Planned)
    (routes : AreRoutesOf ports table) (read : IsCaptureOf capture.bytes.items capture) (slots_long : length slots ≡ length capture.packets.items)
    (is : IsTrafficOf table capture slots packets) where
  stored_long : length (packets_of capture) ≡ length capture.packets.items
  stored_long = length-map capture.packets.items (packet_in capture.bytes.items)

  pub packets_long : length packets ≡ length capture.packets.items
  packets_long =
      sym (length-map packets (λ (p : Planned). p.start))
      ∙ ap length is.places
      ∙ length-map capture.packets.items (λ (s : Stored). s.start)

  pub packet_from : (k : ℕ) (d : Planned) → k < length packets
      → IsFrom table capture.link capture.bytes.items (slice_index_or capture.packets.items k no_stored) (slice_index_or slots k 0) (slice_index_or packets k d)
  packet_from k d inside =
      let f : Packet × ℕ → Planned = λ pair. planned table capture.link pair.0 pair.1 in
      let pairs = zip (packets_of capture) slots in
      let own = packet_in capture.bytes.items no_stored in
      let s = slice_index_or capture.packets.items k no_stored in
      let slot = slice_index_or slots k 0 in
      let in_stored : k < length capture.packets.items = omega (arith, packets_long) in
      let in_pairs : k < length (map f pairs) =
      omega (arith, length-map pairs f, length_zip (packets_of capture) slots (stored_long ∙ sym slots_long), stored_long) in
      let same : unplaced (slice_index_or packets k d) ≡ planned table capture.link (packet_in capture.bytes.items s) slot =
      sym (get_or-map_same unplaced packets k d)
      ∙ ap (λ xs. slice_index_or xs k (unplaced d)) is.packets_are
      ∙ get_or_default (map f pairs) k (unplaced d) (f (own, 0)) in_pairs
      ∙ get_or-map_same f pairs k (own, 0)
      ∙ ap f (at_zip (packets_of capture) slots k own 0 (omega (arith, stored_long)) (omega (arith, slots_long)))
      ∙ ap (λ p. planned table capture.link p slot) (get_or-map_same (packet_in capture.bytes.items) capture.packets.items k no_stored) in
      let place : (slice_index_or packets k d).start ≡ s.start =
      sym (get_or-map_same (λ (p : Planned). p.start) packets k d)
      ∙ ap (λ xs. slice_index_or xs k d.start) is.places
      ∙ get_or_default (map (λ (s : Stored). s.start) capture.packets.items) k d.start no_stored.start
      (omega (arith, length-map capture.packets.items (λ (s : Stored). s.start)))
      ∙ get_or-map_same (λ (s : Stored). s.start) capture.packets.items k no_stored in
      record {
        nanos = ap (λ (p : Planned). p.nanos) same;
        start = place;
        len = ap (λ (p : Planned). p.len) same ∙ length-captured_in capture.bytes.items s (read.within k no_stored in_stored);
        arrival = ap (λ (p : Planned). p.arrival) same;
        fan = ap (λ (p : Planned). p.fan) same;
        level = ap (λ (p : Planned). p.level) same;
      }

  pub fan_is_short : (k : ℕ) (d : Planned) → k < length packets → IsForwardable (slice_index_or packets k d)
  fan_is_short k d inside goes =
      let s = slice_index_or capture.packets.items k no_stored in
      let from = packet_from k d inside in
      let frame = captured_in capture.bytes.items s in
      let long = length-captured_in capture.bytes.items s (read.within k no_stored (omega (arith, packets_long))) in
      let short : length frame ≤ 65535 =
      short_one (is_oversize frame) (length frame) (route_of table (destination_of capture.link frame)) refl (λ none. goes (from.fan ∙ none)) in
      omega (arith, from.len)
    where
      short_one : (long : Bool) (n : ℕ) (route : Option Route) → nat_lt 65535 n ≡ long → fan_of (if long then None else route) ≢ 0 → n ≤ 65535
      short_one true n route test goes = absurd (goes refl)
      short_one false n route test goes = grind (arith, nat_tests, test)

  pub places : (k : ℕ) (packet : Planned) → slice_get packets k ≡ Some packet → IsPlanned ports (length capture.bytes.items) packet
  places k packet there =
      let inside = slice_get_within packets k packet there in
      let at = get_or_from_slice_get packets k packet packet there in
      let s = slice_index_or capture.packets.items k no_stored in
      let slot = slice_index_or slots k 0 in
      let from : IsFrom table capture.link capture.bytes.items s slot packet =
      subst (λ (p : Planned). IsFrom table capture.link capture.bytes.items s slot p) at (packet_from k packet inside) in
      let frame = captured_in capture.bytes.items s in
      let route = route_of table (destination_of capture.link frame) in
      let fan = fan_within ports (route_for table capture.link frame)
      (kept_route (λ o. (r : Route) → o ≡ Some r → IsRouteOf ports r) (is_oversize frame) route (λ r e. absurd (none-some r e))
      (λ r e. routed ports table (destination_of capture.link frame) r routes e)) in
      let here = read.within k no_stored (omega (arith, packets_long)) in
      record {
        place = omega (arith, from.start, from.len);
        level = subst (λ l. l < 4) (sym from.level) fan.1;
        fan = subst (λ f. f < 2 ^ ports) (sym from.fan) fan.0;
        forwarded = subst IsForwardable at (fan_is_short k packet inside);
      }

  -- the bytes of its packets are those of the capture's
  pub bodies_are : map (λ (p : Planned). take p.len (drop p.start capture.bytes.items)) packets ≡ map (λ (p : Packet). p.bytes) (packets_of capture)
  bodies_are =
      let own_bytes : Planned → List ℕ = λ p. take p.len (drop p.start capture.bytes.items) in
      same_lists (map own_bytes packets) (map (λ (p : Packet). p.bytes) (packets_of capture))
      (length-map packets own_bytes ∙ packets_long ∙ sym stored_long ∙ sym (length-map (packets_of capture) (λ (p : Packet). p.bytes)))
      (λ k d inside.
      let in_port : k < length packets = omega (arith, length-map packets own_bytes) in
      let from = packet_from k no_packet in_port in
      let s = slice_index_or capture.packets.items k no_stored in
      let p = slice_index_or packets k no_packet in
      let own = packet_in capture.bytes.items no_stored in
      let body : own_bytes p ≡ captured_in capture.bytes.items s =
      ap (λ n. take n (drop p.start capture.bytes.items)) from.len
      ∙ ap (λ n. take s.len (drop n capture.bytes.items)) from.start in
      get_or_default (map own_bytes packets) k d (own_bytes no_packet) inside
      ∙ get_or-map_same own_bytes packets k no_packet
      ∙ body
      ∙ sym (ap (λ (x : Packet). x.bytes) (get_or-map_same (packet_in capture.bytes.items) capture.packets.items k no_stored))
      ∙ sym (get_or-map_same (λ (x : Packet). x.bytes) (packets_of capture) k own)
      ∙ sym (get_or_default (map (λ (x : Packet). x.bytes) (packets_of capture)) k d own.bytes
      (omega (arith, length-map (packets_of capture) (λ (x : Packet). x.bytes), stored_long, packets_long))))

  -- and stand where the capture has them
  pub starts_are : map (λ (p : Planned). p.start) packets ≡ places_from 40 (packets_of capture)
  starts_are = is.places ∙ starts_from capture.bytes.items 40 capture.packets.items read.within read.order

  -- how many of its packets are too long, and how many go nowhere
  pub long_are : count_by is_long packets ≡ count_by (λ (p : Packet). is_oversize p.bytes) (packets_of capture)
  long_are =
      sym (count_map is_long unplaced packets)
      ∙ ap (count_by is_long) is.packets_are
      ∙ count_map is_long (λ pair. planned table capture.link pair.0 pair.1) (zip (packets_of capture) slots)
      ∙ count_left (λ (p : Packet). is_oversize p.bytes) (packets_of capture) slots (stored_long ∙ sym slots_long)

  pub aside_are : count_by (λ (p : Planned). p.fan == 0) packets
      ≡ count_by (λ (p : Packet). is_oversize p.bytes) (packets_of capture) + count_by (λ (p : Packet). is_unrouted table capture.link p.bytes)
      (packets_of capture)
  aside_are =
      let aside : Planned → Bool = λ p. p.fan == 0 in
      sym (count_map aside unplaced packets)
      ∙ ap (count_by aside) is.packets_are
      ∙ count_map aside (λ pair. planned table capture.link pair.0 pair.1) (zip (packets_of capture) slots)
      ∙ count_left (λ (p : Packet). fan_of (route_for table capture.link p.bytes) == 0) (packets_of capture) slots (stored_long ∙ sym slots_long)
      ∙ aside_split ports table capture.link (packets_of capture) routes

  -- where the capture counts in microseconds, so do its packets
  pub whole : capture.nano ≡ false → All (λ (p : Planned). p.nanos % 1000 ≡ 0) packets
  whole micro k d inside =
      let s = slice_index_or capture.packets.items k no_stored in
      let from = packet_from k d inside in
      let records = read.file.records in
      let own = packet_in capture.bytes.items no_stored in
      let here : k < length records = let e = ap length read.file.packets_are in
      omega (arith, e, length-map records (packet_of capture.nano), stored_long, packets_long) in
      let same : packet_in capture.bytes.items s ≡ slice_index_or (map (packet_of capture.nano) records) k own =
      sym (get_or-map_same (packet_in capture.bytes.items) capture.packets.items k no_stored) ∙ ap (λ xs. slice_index_or xs k own) read.file.packets_are in
      let stored : s.nanos % 1000 ≡ 0 =
      ap (λ (p : Packet). p.nanos % 1000) same ∙ micros_are capture.nano micro records k own here in
      ap (λ n. n % 1000) from.nanos ∙ stored
    where
      micros_are : (nano : Bool) → nano ≡ false → (records : List Record) (k : ℕ) (d : Packet) → k < length records
          → (slice_index_or (map (packet_of nano) records) k d).nanos % 1000 ≡ 0
      micros_are true micro records k d inside = absurd (cc micro)
      micros_are false micro [] k d inside = absurd (omega arith)
      micros_are false micro (r ∷ records) zero d inside = omega arith
      micros_are false micro (r ∷ records) (suc k) d inside = micros_are false micro records k d (omega arith)

-- at the slots of the line there is one for each packet
pub taken_long : (pace : Pace) (capture : Capture) → length (slots_at pace capture) ≡ length capture.packets.items
taken_long pace capture = slots_long pace (packets_of capture) ∙ length-map capture.packets.items (packet_in capture.bytes.items)

-- packets that come at the slots of the line
module _ (ports : ℕ) (table : List RouteLine) (pace : Pace) (capture : Capture) (packets : List Planned)
    (routes : AreRoutesOf ports table) (read : IsCaptureOf capture.bytes.items capture) (is : IsTrafficOf table capture (slots_at pace capture) packets) where
  -- there are no more packets than arrival slots
  pub few_packets : length packets ≤ slots_taken (slots_at pace capture)
  few_packets =
      let few = rising_few (slots_at pace capture) (arrivals_rise pace 0 (packets_of capture)) in
      omega (arith, packets_long ports table capture (slots_at pace capture) packets routes read (taken_long pace capture) is, taken_long pace capture)

  pub rising : AreRising packets
  rising k j p r at_k at_j less =
      let taken = taken_long pace capture in
      let long = packets_long ports table capture (slots_at pace capture) packets routes read taken is in
      let from = packet_from ports table capture (slots_at pace capture) packets routes read taken is in
      let inside = slice_get_within packets j r at_j in
      let p_slot = (from k p (omega arith)).arrival in
      let r_slot = (from j r inside).arrival in
      let apart = rising_apart 0 (slots_at pace capture) k j 0 (arrivals_rise pace 0 (packets_of capture)) less (omega arith) in
      let p_at = ap (λ (x : Planned). x.arrival) (get_or_from_slice_get packets k p p at_k) in
      let r_at = ap (λ (x : Planned). x.arrival) (get_or_from_slice_get packets j r r at_j) in
      omega arith

  -- the arrival slots of the port are those of the line
  pub port_slots : slots_of packets ≡ slots_taken (slots_at pace capture)
  port_slots =
      ap slots_taken (sym (map-map (λ (p : Planned). p.arrival) unplaced packets))
      ∙ ap slots_of is.packets_are
      ∙ traffic_slots_at table pace capture
