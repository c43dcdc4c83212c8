-- One pass over the packets of a capture, as far as it has come.
use Rattle.std.proofs.Common.{◌≡◌, ◌∙◌, ℕ, zero, suc, ◌+◌, ◌-◌, ◌*◌, ◌^◌, ◌<◌, ◌≤◌, max, List, [], ◌∷◌, ◌++◌, length, take, slice_index_or, refl, ap, sym}
use Rattle.std.proofs.Common.{subst, arith}
use Rattle.std.specs.Prelude.{map, All}
use Rattle.std.specs.List.{zip}
use Rattle.std.proofs.lemmas.List.{length-map, take_all}
use Rattle.std.proofs.lemmas.List.Elements.{All-push}
use Rattle.std.proofs.Math.ListN.{get_or-map as get_or-map_same}
use Rattle.line_pace.specs.declared.pace.Pace.{Pace}
use Rattle.line_pace.specs.declared.pace.Stamp.{Stamp}
use Rattle.line_pace.specs.Arrivals.{arrival, arrivals_from, slots_taken}
use Rattle.line_pace.proofs.Running.{free_after, slots_taken-is}
use Rattle.pcap_records.specs.declared.capture.Capture.{Capture}
use Rattle.pcap_records.specs.declared.capture.Stored.{Stored}
use Rattle.pcap_records.specs.Packets.{Packet, packet_in, packets_of}
use Rattle.forward_table.specs.declared.route_lines.RouteLine.{RouteLine}
use Rattle.card_core.specs.declared.plan.Planned.{Planned}
use Rattle.switch_plan.specs.Traffic.{stamp_of, planned, unplaced}
use Rattle.switch_plan.specs.ReadingSteps.{IsCaptureOf, IsTrafficOf}
use Rattle.switch_plan.specs.CountingSteps.{IsForwardable, AreCountable}
use Rattle.switch_plan.specs.PortSteps.{slots_at, traffic_at}
use Rattle.std_lemmas.proofs.Mapping.{at_zip, length_zip, made_next}
use Rattle.switch_plan.proofs.Times.{no_stored}
use Rattle.switch_plan.proofs.Arriving.{cells_some}
use Rattle.switch_plan.proofs.Rising.{slots_long}

-- ---- the line
-- the slot from which on the line is free, after one packet more
free_more : (pace : Pace) (free : ℕ) (stamps : List Stamp) (k : ℕ) (d : Stamp) → k < length stamps
    → free_after pace free (take (suc k) stamps) ≡ arrival pace (free_after pace free (take k stamps)) (slice_index_or stamps k d) + 1
free_more pace free [] k d inside = absurd (omega arith)
free_more pace free (stamp ∷ stamps) zero d inside = refl
free_more pace free (stamp ∷ stamps) (suc k) d inside = free_more pace (arrival pace free stamp + 1) stamps k d (omega arith)

-- and the slot of that packet
slot_more : (pace : Pace) (free : ℕ) (stamps : List Stamp) (k : ℕ) (d : Stamp) → k < length stamps
    → slice_index_or (arrivals_from pace free stamps) k 0 ≡ arrival pace (free_after pace free (take k stamps)) (slice_index_or stamps k d)
slot_more pace free [] k d inside = absurd (omega arith)
slot_more pace free (stamp ∷ stamps) zero d inside = refl
slot_more pace free (stamp ∷ stamps) (suc k) d inside = slot_more pace (arrival pace free stamp + 1) stamps k d (omega arith)

-- ---- the pass
-- The first k packets: the line is free from slot `free` on. They are those of the traffic where that slot has 32 bits.
pub record SoFar (table : List RouteLine) (pace : Pace) (capture : Capture) (k free : ℕ) (packets : List Planned) : Type 0 where
  pub free_is : free ≡ free_after pace 0 (take k (map stamp_of (packets_of capture)))
  pub low : free ≤ 2 ^ 64 - 2 ^ 61 + 4682 * k
  pub made : free ≤ 2 ^ 32 → map unplaced packets ≡ take k (traffic_at table pace capture)
  pub places : map (λ packet. packet.start) packets ≡ take k (map (λ packet. packet.start) capture.packets.items)
  pub forwarded : All IsForwardable packets

-- What the calls for packet k gave: its stamp, its slot and what is planned of it. Only a slot of 32 bits is kept.
pub record IsStep (table : List RouteLine) (pace : Pace) (capture : Capture) (k free : ℕ) (stamp : Stamp) (slot : ℕ) (packet : Planned) : Type 0 where
  pub stamp_is : stamp ≡ stamp_of (packet_in capture.bytes.items (slice_index_or capture.packets.items k no_stored))
  pub slot_is : slot ≡ arrival pace free stamp
  pub bound : slot < max (2 ^ 64 - 2 ^ 61) free + 4682
  pub packet_is : slot < 2 ^ 32
      → unplaced packet ≡ planned table capture.link (packet_in capture.bytes.items (slice_index_or capture.packets.items k no_stored)) slot
  pub start : packet.start ≡ (slice_index_or capture.packets.items k no_stored).start
  pub forwarded : IsForwardable packet

module _ (table : List RouteLine) (pace : Pace) (capture : Capture) where
  abbrev own : List Stored
  own = capture.packets.items

  stored_long : length (packets_of capture) ≡ length own
  stored_long = length-map own (packet_in capture.bytes.items)

  stamps_long : length (map stamp_of (packets_of capture)) ≡ length own
  stamps_long = length-map (packets_of capture) stamp_of ∙ stored_long

  traffic_long : length (traffic_at table pace capture) ≡ length own
  traffic_long =
      length-map (zip (packets_of capture) (slots_at pace capture)) (λ pair. planned table capture.link pair.0 pair.1)
      ∙ length_zip (packets_of capture) (slots_at pace capture) (sym (slots_long pace (packets_of capture)))
      ∙ stored_long

  starts_long : length (map (λ (s : Stored). s.start) own) ≡ length own
  starts_long = length-map own (λ (s : Stored). s.start)

  -- at a place of the traffic is the packet of that place, at its slot
  traffic_here : (k slot : ℕ) → k < length own → slice_index_or (slots_at pace capture) k 0 ≡ slot
      → planned table capture.link (packet_in capture.bytes.items (slice_index_or own k no_stored)) slot
      ≡ slice_index_or (traffic_at table pace capture) k (planned table capture.link (packet_in capture.bytes.items no_stored) 0)
  traffic_here k slot inside here =
      let f : Packet × ℕ → Planned = λ pair. planned table capture.link pair.0 pair.1 in
      let d : Packet × ℕ = (packet_in capture.bytes.items no_stored, 0) in
      let taken = slots_long pace (packets_of capture) in
      sym (get_or-map_same f (zip (packets_of capture) (slots_at pace capture)) k d
      ∙ ap f (at_zip (packets_of capture) (slots_at pace capture) k (packet_in capture.bytes.items no_stored) 0 (omega (arith, stored_long))
      (omega (arith, taken, stored_long)))
      ∙ ap (λ p. planned table capture.link p (slice_index_or (slots_at pace capture) k 0)) (get_or-map_same (packet_in capture.bytes.items) own k no_stored)
      ∙ ap (planned table capture.link (packet_in capture.bytes.items (slice_index_or own k no_stored))) here)

  pub so_far_next : (k free slot : ℕ) (stamp : Stamp) (packet : Planned) (before : List Planned) → k < length capture.packets.items
      → SoFar table pace capture k free before → IsStep table pace capture k free stamp slot packet
      → SoFar table pace capture (k + 1) (slot + 1) (before ++ packet ∷ [])
  so_far_next k free slot stamp packet before inside far step =
      let after = before ++ packet ∷ [] in
      let stamps = map stamp_of (packets_of capture) in
      let d = stamp_of (packet_in capture.bytes.items no_stored) in
      let stamp_at : slice_index_or stamps k d ≡ stamp =
      get_or-map_same stamp_of (packets_of capture) k (packet_in capture.bytes.items no_stored)
      ∙ ap stamp_of (get_or-map_same (packet_in capture.bytes.items) own k no_stored)
      ∙ sym step.stamp_is in
      let in_stamps : k < length stamps = omega (arith, stamps_long) in
      let here : arrival pace (free_after pace 0 (take k stamps)) (slice_index_or stamps k d) ≡ slot =
      ap (arrival pace (free_after pace 0 (take k stamps))) stamp_at
      ∙ ap (λ n. arrival pace n stamp) (sym far.free_is)
      ∙ sym step.slot_is in
      let some : 0 < stamp.cells = subst (λ (s : Stamp). 0 < s.cells) (sym step.stamp_is)
      (cells_some (length (packet_in capture.bytes.items (slice_index_or own k no_stored)).bytes)) in
      let one_more : k + 1 ≡ suc k = omega arith in
      let later : free ≤ slot = let is = step.slot_is in omega arith in
      record {
        free_is = sym (ap (λ n. free_after pace 0 (take n stamps)) one_more ∙ free_more pace 0 stamps k d in_stamps ∙ ap (λ n. n + 1) here);
        low = omega (arith, far.low, step.bound);
        made = λ within.
            made_next unplaced before after (traffic_at table pace capture) packet k
            (planned table capture.link (packet_in capture.bytes.items no_stored) 0) refl
            (step.packet_is (omega arith) ∙ traffic_here k slot inside (slot_more pace 0 stamps k d in_stamps ∙ here)) (omega (arith, traffic_long))
            (far.made (omega arith));
        places = made_next (λ (p : Planned). p.start) before after (map (λ (s : Stored). s.start) own) packet k 0 refl
            (step.start ∙ sym (get_or-map_same (λ (s : Stored). s.start) own k no_stored)) (omega (arith, starts_long)) far.places;
        forwarded = All-push IsForwardable before packet far.forwarded step.forwarded;
      }

  -- ---- at its end
  module _ (k free : ℕ) (packets : List Planned) (far : SoFar table pace capture k free packets) (end : length capture.packets.items ≤ k) where
    pub end_slots : free ≡ slots_taken (slots_at pace capture)
    end_slots =
        far.free_is
        ∙ ap (free_after pace 0) (take_all k (map stamp_of (packets_of capture)) (omega (arith, stamps_long)))
        ∙ sym (slots_taken-is pace (map stamp_of (packets_of capture)))

    end_places : map (λ (p : Planned). p.start) packets ≡ map (λ (s : Stored). s.start) capture.packets.items
    end_places = far.places ∙ take_all k (map (λ (s : Stored). s.start) own) (omega (arith, starts_long))

    pub end_traffic : free ≤ 2 ^ 32 → IsTrafficOf table capture (slots_at pace capture) packets
    end_traffic within = record {
      packets_are = far.made within ∙ take_all k (traffic_at table pace capture) (omega (arith, traffic_long));
      places = end_places;
    }

    pub end_countable : IsCaptureOf capture.bytes.items capture → AreCountable packets
    end_countable read =
        let few = read.few in
        record {
          few = omega (arith, few, length-map packets (λ (p : Planned). p.start), ap length end_places, starts_long);
          forwarded = far.forwarded;
        }
