-- The classic pcap file format, version 2.4, as it is spelled byte by byte.
use Rattle.std.specs.Prelude.{ℕ, ◌*◌, ◌<◌, ◌≤◌, ◌^◌, Bool, true, false, min, List, ◌++◌, length}
use Rattle.byteorder.specs.Endian.{big_bytes, little_bytes, big_number, little_number}
use Rattle.pcap_records.specs.declared.link.Link.{Link}
use Rattle.pcap_records.specs.declared.link.Link.TheVariants.{Ethernet, RawIp}
use Rattle.pcap_records.specs.declared.order.Order.{Order}
use Rattle.pcap_records.specs.declared.order.Order.TheVariants.{Big, Little}
use Rattle.pcap_records.specs.Packets.{Packet}

-- the lowest n bytes of a number, in a byte order
unfoldable pub number_bytes : Order → ℕ → ℕ → List ℕ
number_bytes Big n x = big_bytes n x
number_bytes Little n x = little_bytes n x

-- the number in the first n bytes, in a byte order
unfoldable pub number_in : Order → ℕ → List ℕ → ℕ
number_in Big n bytes = big_number n bytes
number_in Little n bytes = little_number n bytes

-- the magic number of a file whose fractions of seconds are nanoseconds, and of one whose are microseconds
abbrev pub magic : Bool → ℕ
magic true = 0xa1b23c4d
magic false = 0xa1b2c3d4

-- the number of a link type
abbrev pub link_type : Link → ℕ
link_type Ethernet = 1
link_type RawIp = 101

-- what a file's header says: its byte order and unit, its version and its link type
pub record Header : Type 0 where
  pub order : Order
  pub nano : Bool
  pub major : ℕ
  pub minor : ℕ
  pub link : ℕ

-- the header of a file that is read: its version is 2.4
abbrev pub header_of : Order → Bool → Link → Header
header_of order nano link = record { order = order; nano = nano; major = 2; minor = 4; link = link_type link }

-- the 24 bytes of a header: the magic, the version, twelve bytes for time zone, accuracy and snap length, and the
-- link type
abbrev pub header_bytes : Header → List ℕ → List ℕ
header_bytes h free = number_bytes h.order 4 (magic h.nano) ++ number_bytes h.order 2 h.major ++ number_bytes h.order 2 h.minor ++ free
    ++ number_bytes h.order 4 h.link

-- a record: its seconds, its fraction of a second, the packet's length on the line and its captured bytes
pub record Record : Type 0 where
  pub seconds : ℕ
  pub fraction : ℕ
  pub original : ℕ
  pub bytes : List ℕ

-- its numbers fit their fields, and no more is captured than the most that is read
pub record IsRecord (r : Record) : Type 0 where
  pub seconds : r.seconds < 2 ^ 32
  pub fraction : r.fraction < 2 ^ 32
  pub original : r.original < 2 ^ 32
  pub bytes : length r.bytes ≤ 262144

-- the 16 bytes of a record's header: seconds, fraction, captured length and length on the line
abbrev pub record_header : Order → ℕ → ℕ → ℕ → ℕ → List ℕ
record_header order seconds fraction captured original =
    number_bytes order 4 seconds ++ number_bytes order 4 fraction ++ number_bytes order 4 captured ++ number_bytes order 4 original

-- a record: its header, and its captured bytes
abbrev pub record_bytes : Order → Record → List ℕ
record_bytes order r = record_header order r.seconds r.fraction (length r.bytes) r.original ++ r.bytes

-- a fraction in nanoseconds; one beyond the second is the last of that second
abbrev pub nanos_of : Bool → ℕ → ℕ
nanos_of true fraction = min fraction 999999999
nanos_of false fraction = min fraction 999999 * 1000

-- the packet of a record
abbrev pub packet_of : Bool → Record → Packet
packet_of nano r = record { seconds = r.seconds; nanos = nanos_of nano r.fraction; original = r.original; bytes = r.bytes }
