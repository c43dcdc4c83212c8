-- The text of the captures that are written: little-endian files of one message a record.
use Rattle.std.specs.Prelude.{◌≡◌, ℕ, ◌+◌, ◌/◌, ◌%◌, ◌^◌, ◌<◌, ◌≤◌, Bool, true, false, List, ◌++◌, length, drop, All}
use Rattle.std.specs.List.{flat_map}
use Rattle.cell_cutter.specs.Messages.{message}
use Rattle.pcap_records.specs.declared.link.Link.{Link}
use Rattle.pcap_records.specs.declared.order.Order.TheVariants.{Big, Little}
use Rattle.pcap_records.specs.Packets.{Packet}
use Rattle.pcap_records.specs.Format.{number_bytes, number_in, header_of, header_bytes, Record, record_bytes}

-- the message of a packet, as it is cut into cells
abbrev pub message_of : Packet → List ℕ
message_of p = message p.seconds p.nanos p.original p.bytes

-- the packet that a message stands for
abbrev pub message_packet : List ℕ → Packet
message_packet m = record { seconds = number_in Big 4 m; nanos = number_in Big 4 (drop 4 m); original = number_in Big 4 (drop 12 m); bytes = drop 16 m }

-- nanoseconds in the unit of a file, rounded down
abbrev pub fraction_of : Bool → ℕ → ℕ
fraction_of true nanos = nanos
fraction_of false nanos = nanos / 1000

-- the record of a packet in a file of that unit
abbrev pub record_of : Bool → Packet → Record
record_of nano p = record { seconds = p.seconds; fraction = fraction_of nano p.nanos; original = p.original; bytes = p.bytes }

-- the header of an output capture: time zone 0, accuracy 0 and the most that is captured as snap length
abbrev pub header_text : Bool → Link → List ℕ
header_text nano link = header_bytes (header_of Little nano link) (number_bytes Little 4 0 ++ number_bytes Little 4 0 ++ number_bytes Little 4 262144)

-- the record of a message
abbrev pub record_text : Bool → List ℕ → List ℕ
record_text nano m = record_bytes Little (record_of nano (message_packet m))

-- an output capture
abbrev pub capture_text : Bool → Link → List (List ℕ) → List ℕ
capture_text nano link messages = header_text nano link ++ flat_map (record_text nano) messages

-- A message that can be written to a file of that unit and read again: its nanoseconds are below the second, and
-- whole microseconds where those are the unit; its captured length is the number of its captured bytes.
pub record IsMessage (nano : Bool) (m : List ℕ) : Type 0 where
  pub bytes : All (λ b. b < 256) m
  pub header : 16 ≤ length m
  pub size : length m ≤ 262160
  pub below : number_in Big 4 (drop 4 m) < 1000000000
  pub whole : nano ≡ false → number_in Big 4 (drop 4 m) % 1000 ≡ 0
  pub captured : number_in Big 4 (drop 8 m) + 16 ≡ length m

-- a packet that can be written to a file of that unit and read again
pub record IsWritable (nano : Bool) (p : Packet) : Type 0 where
  pub seconds : p.seconds < 2 ^ 32
  pub below : p.nanos < 1000000000
  pub whole : nano ≡ false → p.nanos % 1000 ≡ 0
  pub original : p.original < 2 ^ 32
  pub bytes : All (λ b. b < 256) p.bytes
  pub size : length p.bytes ≤ 262144
