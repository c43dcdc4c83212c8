-- The packets of a capture.
use Rattle.std.specs.Prelude.{◌≡◌, ℕ, ◌+◌, ◌<◌, ◌≤◌, List, length, take, drop, map, sum_by, slice_index_or}
use Rattle.pcap_records.specs.declared.capture.Capture.{Capture}
use Rattle.pcap_records.specs.declared.capture.Stored.{Stored}

-- a packet: when it was captured, how many bytes it had on the line, and those that were captured
pub record Packet : Type 0 where
  pub seconds : ℕ
  pub nanos : ℕ
  pub original : ℕ
  pub bytes : List ℕ

-- the captured bytes of a packet, as they stand in a file
abbrev pub captured_in : List ℕ → Stored → List ℕ
captured_in file s = take s.len (drop s.start file)

-- they lie within the file
abbrev pub IsWithin : List ℕ → Stored → Type 0
IsWithin file s = s.start + s.len ≤ length file

-- how many bytes the records of these packets have: 16 of header, and the captured bytes
abbrev pub records_length : List Stored → ℕ
records_length packets = sum_by (λ s. 16 + s.len) packets

-- Each packet's captured bytes begin after the file's header of 24 bytes, the records before its own, and the 16 bytes of its own record's header.
abbrev pub AreInOrder : List Stored → Type 0
AreInOrder packets = (k : ℕ) (d : Stored) → k < length packets → (slice_index_or packets k d).start ≡ 40 + records_length (take k packets)

-- a packet that is stored as a place in a file
abbrev pub packet_in : List ℕ → Stored → Packet
packet_in file s = record { seconds = s.seconds; nanos = s.nanos; original = s.original; bytes = captured_in file s }

-- the packets of a capture that was read
abbrev pub packets_of : Capture → List Packet
packets_of c = map (packet_in c.bytes.items) c.packets.items
