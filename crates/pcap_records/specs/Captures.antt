-- The files that are captures, and with which packets.
use Rattle.std.specs.Prelude.{◌≡◌, ℕ, ◌<◌, ◌^◌, Bool, List, ◌++◌, length, map}
use Rattle.std.specs.List.{flat_map, AllByRecursion}
use Rattle.pcap_records.specs.declared.link.Link.{Link}
use Rattle.pcap_records.specs.declared.order.Order.{Order}
use Rattle.pcap_records.specs.Packets.{Packet}
use Rattle.pcap_records.specs.Format.{Header, header_of, header_bytes, Record, IsRecord, record_bytes, packet_of}

-- A file begins with this header, and then has the rest. The twelve bytes before the link type may be
-- anything.
pub record HasHeader (file : List ℕ) (h : Header) (rest : List ℕ) : Type 0 where
  pub major : h.major < 2 ^ 16
  pub minor : h.minor < 2 ^ 16
  pub link : h.link < 2 ^ 32
  pub free : List ℕ
  pub twelve : length free ≡ 12
  pub spelled : file ≡ header_bytes h free ++ rest

-- records one after another
abbrev pub records_bytes : Order → List Record → List ℕ
records_bytes order records = flat_map (record_bytes order) records

-- A file is a capture with these packets: a header, and then whole records to its end.
pub record IsCapture (file : List ℕ) (nano : Bool) (link : Link) (packets : List Packet) : Type 0 where
  pub order : Order
  pub records : List Record
  pub each : AllByRecursion IsRecord records
  pub header : HasHeader file (header_of order nano link) (records_bytes order records)
  pub packets_are : packets ≡ map (packet_of nano) records
