-- How many packets a capture has, and of how many bytes.
use Rattle.std.proofs.Common.{◌≡◌, ◌∙◌, ℕ, zero, suc, ◌+◌, ◌*◌, ◌^◌, ◌<◌, ◌≤◌, Bool, List, [], ◌∷◌, length, take, slice_index_or, ap, sym, subst, arith}
use Rattle.std.specs.Prelude.{map, fold, All}
use Rattle.std.specs.List.{AllByRecursion}
use Rattle.std.proofs.lemmas.List.{length-map, length-take-le}
use Rattle.std.proofs.Math.ListN.{get_or-map as get_or-map_same}
use Rattle.pcap_records.specs.declared.capture.Capture.{Capture}
use Rattle.pcap_records.specs.declared.capture.Stored.{Stored}
use Rattle.pcap_records.specs.Packets.{Packet, captured_in, packet_in, packets_of, AreInOrder, IsWithin}
use Rattle.pcap_records.specs.Format.{Record, IsRecord, packet_of}
use Rattle.switch_plan.specs.Traffic.{IsFile, file_of}
use Rattle.switch_plan.proofs.Times.{no_stored, length-captured_in}

records_short : (nano : Bool) (records : List Record) → AllByRecursion IsRecord records → (k : ℕ) (d : Packet) → k < length records
    → length (slice_index_or (map (packet_of nano) records) k d).bytes ≤ 262144
records_short nano [] each k d inside = absurd (omega arith)
records_short nano (r ∷ records) each zero d inside = each.0.bytes
records_short nano (r ∷ records) each (suc k) d inside = records_short nano records each.1 k d (omega arith)

-- no packet of a capture has more captured bytes than a record may have
pub capture_short : (bytes : List ℕ) (capture : Capture) → IsFile bytes (file_of capture) → All (IsWithin capture.bytes.items) capture.packets.items
    → All (λ s. s.len ≤ 262144) capture.packets.items
capture_short bytes capture file within k d inside =
    let stored = slice_index_or capture.packets.items k d in
    let own = packet_in capture.bytes.items d in
    let long : length (packets_of capture) ≡ length file.records = ap length file.packets_are ∙ length-map file.records (packet_of capture.nano) in
    let short = records_short capture.nano file.records file.each k own
    (omega (arith, long, length-map capture.packets.items (packet_in capture.bytes.items))) in
    let same : slice_index_or (map (packet_of capture.nano) file.records) k own ≡ packet_in capture.bytes.items stored =
    ap (λ xs. slice_index_or xs k own) (sym file.packets_are) ∙ get_or-map_same (packet_in capture.bytes.items) capture.packets.items k d in
    let here : length (captured_in capture.bytes.items stored) ≤ 262144 = subst (λ (p : Packet). length p.bytes ≤ 262144) same short in
    omega (arith, here, length-captured_in capture.bytes.items stored (within k d inside))

-- a record has 16 bytes at least
records_long : (a : ℕ) (packets : List Stored) → a + 16 * length packets ≤ fold (λ b s. b + (16 + s.len)) a packets
records_long a [] = omega arith
records_long a (s ∷ packets) = let more = records_long (a + (16 + s.len)) packets in omega (arith, more)

-- and a file of less than 2^32 bytes at most 2^28 of them
pub capture_few : (bytes : List ℕ) (packets : List Stored) → AreInOrder packets → All (IsWithin bytes) packets → length bytes < 2 ^ 32
    → length packets ≤ 268435456
capture_few bytes [] order within size = omega arith
capture_few bytes (s ∷ packets) order within size =
    let inside : length packets < length (s ∷ packets) = omega arith in
    let start = order (length packets) no_stored inside in
    let place = within (length packets) no_stored inside in
    let before = records_long 0 (take (length packets) (s ∷ packets)) in
    let long = length-take-le (length packets) (s ∷ packets) (omega arith) in
    omega (arith, start, place, before, long)
