-- One record of a file: where its packet is stored, or that no whole record stands at a place.
use Rattle.std.specs.Prelude.{◌≡◌, ℕ, ◌+◌, Bool, List, ◌++◌, drop}
use Rattle.pcap_records.specs.declared.capture.Stored.{Stored}
use Rattle.pcap_records.specs.declared.fault.PcapFault.{PcapFault}
use Rattle.pcap_records.specs.declared.fault.PcapFault.TheVariants.{CutRecord, LongRecord}
use Rattle.pcap_records.specs.declared.order.Order.{Order}
use Rattle.pcap_records.specs.Packets.{packet_in, IsWithin}
use Rattle.pcap_records.specs.Format.{Record, IsRecord, record_bytes, packet_of}
use Rattle.pcap_records.specs.Faults.{IsCut, IsLong}

-- a whole record stands at `at` in the file, and this is where its packet is stored
pub record IsStored (order : Order) (nano : Bool) (file : List ℕ) (at : ℕ) (s : Stored) : Type 0 where
  pub record_there : Record
  pub each : IsRecord record_there
  pub spelled : drop at file ≡ record_bytes order record_there ++ drop (s.start + s.len) file
  pub place : s.start ≡ at + 16
  pub within : IsWithin file s
  pub packet : packet_in file s ≡ packet_of nano record_there

-- no whole record stands at `at`, where the file goes on with the rest
abbrev pub IsBroken : Order → List ℕ → ℕ → PcapFault → Type 0
IsBroken order rest at (CutRecord place) = (place ≡ at) × IsCut order rest
IsBroken order rest at (LongRecord place len) = (place ≡ at) × IsLong order rest len
IsBroken order rest at _ = ⊥
