-- Why a file is no capture.
use Rattle.std.specs.Prelude.{◌≡◌, ◌≢◌, ℕ, ◌+◌, ◌<◌, ◌≤◌, ◌^◌, Bool, List, ◌++◌, length, take}
use Rattle.std.specs.List.{AllByRecursion}
use Rattle.pcap_records.specs.declared.fault.PcapFault.{PcapFault}
use Rattle.pcap_records.specs.declared.fault.PcapFault.TheVariants.{ShortHeader, BadMagic, BadVersion, BadLink, CutRecord, LongRecord, OutOfMemory}
use Rattle.pcap_records.specs.declared.link.Link.{Link}
use Rattle.pcap_records.specs.declared.order.Order.{Order}
use Rattle.pcap_records.specs.declared.order.Order.TheVariants.{Big}
use Rattle.pcap_records.specs.Format.{number_bytes, number_in, magic, Header, header_of, Record, IsRecord, record_header}
use Rattle.pcap_records.specs.Captures.{HasHeader, records_bytes}

-- A file has a header and whole records before byte `at`, and the rest from there on.
pub record IsWholeBefore (file : List ℕ) (order : Order) (at : ℕ) (rest : List ℕ) : Type 0 where
  pub nano : Bool
  pub link : Link
  pub records : List Record
  pub each : AllByRecursion IsRecord records
  pub header : HasHeader file (header_of order nano link) (records_bytes order records ++ rest)
  pub place : at + length rest ≡ length file

-- The rest of a file begins with the header of a record of `captured` bytes, and goes on with more.
pub record Announces (order : Order) (rest : List ℕ) (captured : ℕ) (more : List ℕ) : Type 0 where
  pub seconds : ℕ
  pub fraction : ℕ
  pub original : ℕ
  pub spelled : rest ≡ record_header order seconds fraction captured original ++ more

-- the file ends within the header of the record, or within its captured bytes
pub data IsCut (order : Order) (rest : List ℕ) : Type 0 where
  in_header : 0 < length rest → length rest < 16 → IsCut order rest
  in_bytes : (captured : ℕ) (more : List ℕ) → Announces order rest captured more → captured ≤ 262144 → length more < captured → IsCut order rest

-- more is captured than the most that is read
pub record IsLong (order : Order) (rest : List ℕ) (captured : ℕ) : Type 0 where
  pub more : List ℕ
  pub announced : Announces order rest captured more
  pub over : 262144 < captured
  pub fits : captured < 2 ^ 32

-- The fault of a file, exactly where it has it. Out of memory is no fault of a file.
abbrev pub IsFault : List ℕ → PcapFault → Type 0
IsFault file (ShortHeader len) = (length file < 24) × (len ≡ length file)
IsFault file (BadMagic found) =
    (24 ≤ length file) × (found ≡ number_in Big 4 file) × ((order : Order) (nano : Bool) → take 4 file ≢ number_bytes order 4 (magic nano))
IsFault file (BadVersion major minor) =
    (h : Header) × (rest : List ℕ) × HasHeader file h rest × (h.major ≡ major) × (h.minor ≡ minor) × ((major ≡ 2) × (minor ≡ 4) → ⊥)
IsFault file (BadLink found) =
    (h : Header) × (rest : List ℕ) × HasHeader file h rest × (h.major ≡ 2) × (h.minor ≡ 4) × (h.link ≡ found) × (found ≢ 1) × (found ≢ 101)
IsFault file (CutRecord at) = (order : Order) × (rest : List ℕ) × IsWholeBefore file order at rest × IsCut order rest
IsFault file (LongRecord at len) = (order : Order) × (rest : List ℕ) × IsWholeBefore file order at rest × IsLong order rest len
IsFault file OutOfMemory = ⊥
