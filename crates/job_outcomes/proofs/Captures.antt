-- A file of bytes is a capture or has a fault: a walk over its records.
use Rattle.std.proofs.Common.{◌≡◌, ◌≢◌, ◌∙◌, ◌⊎◌, ℕ, zero, suc, ◌+◌, ◌<◌, ◌≤◌, ◌^◌, Bool, true, false, List, [], ◌∷◌, ◌++◌, length, drop, All, refl, ap, sym}
use Rattle.std.proofs.Common.{append_assoc, arith, inl, inr}
use Rattle.std.specs.Prelude.{map}
use Rattle.std.proofs.lemmas.Bool.{cases_eq, cases_lt}
use Rattle.std.proofs.lemmas.List.{get_or_past, length-drop}
use Rattle.pcap_records.specs.declared.capture.Stored.{Stored}
use Rattle.pcap_records.specs.declared.fault.PcapFault.{PcapFault}
use Rattle.pcap_records.specs.declared.fault.PcapFault.TheVariants.{ShortHeader, BadMagic, BadVersion, BadLink, CutRecord, LongRecord}
use Rattle.pcap_records.specs.declared.link.Link.{Link}
use Rattle.pcap_records.specs.declared.link.Link.TheVariants.{Ethernet, RawIp}
use Rattle.pcap_records.specs.declared.order.Order.{Order}
use Rattle.pcap_records.specs.declared.order.Order.TheVariants.{Big, Little}
use Rattle.pcap_records.specs.Packets.{packet_in, AreInOrder, IsWithin}
use Rattle.pcap_records.specs.Format.{number_bytes, number_in, magic, link_type, Header, header_of, record_header}
use Rattle.pcap_records.specs.Captures.{HasHeader, IsCapture}
use Rattle.pcap_records.specs.Faults.{IsFault, in_header, in_bytes}
use Rattle.pcap_records.specs.Records.{IsStored, IsBroken}
use Rattle.pcap_records.proofs.Numbers.{IsBytes, IsBytes-drop, number_in-lt, read_two, read_four, spelled_four}
use Rattle.pcap_records.proofs.Headers.{no_magic, link_in, has_header, good_header}
use Rattle.pcap_records.proofs.Whole.{HeaderAt, stored}
use Rattle.pcap_records.proofs.Walk.{IsReadBefore, read_none, read_more, read_all, whole_before, broken}

-- ---- one record
-- the number of four bytes at a place, and what follows it
four_at : (order : Order) (file : List ℕ) (at next : ℕ) → at + 4 ≡ next → next ≤ length file → IsBytes file
    → drop at file ≡ number_bytes order 4 (number_in order 4 (drop at file)) ++ drop next file
four_at order file at next is inside bytes =
    read_four order file at (number_in order 4 (drop at file)) (omega arith) bytes refl
    ∙ ap (λ n. number_bytes order 4 (number_in order 4 (drop at file)) ++ drop n file) is

module _ (order : Order) (nano : Bool) (file : List ℕ) (at : ℕ) (bytes : IsBytes file) where
  abbrev seconds : ℕ
  seconds = number_in order 4 (drop at file)

  abbrev fraction : ℕ
  fraction = number_in order 4 (drop (at + 4) file)

  abbrev captured : ℕ
  captured = number_in order 4 (drop (at + 8) file)

  abbrev original : ℕ
  original = number_in order 4 (drop (at + 12) file)

  below : (place : ℕ) → number_in order 4 (drop place file) < 2 ^ 32
  below place = number_in-lt order 4 (drop place file) (IsBytes-drop place file bytes)

  header_there : at + 16 ≤ length file → HeaderAt order file at
  header_there there =
      let spelled : drop at file ≡ record_header order seconds fraction captured original ++ drop (at + 16) file =
      four_at order file at (at + 4) refl (omega arith) bytes
      ∙ ap (λ rest. number_bytes order 4 seconds ++ rest) (four_at order file (at + 4) (at + 8) (omega arith) (omega arith) bytes
      ∙ ap (λ rest. number_bytes order 4 fraction ++ rest) (four_at order file (at + 8) (at + 12) (omega arith) (omega arith) bytes
      ∙ ap (λ rest. number_bytes order 4 captured ++ rest) (four_at order file (at + 12) (at + 16) (omega arith) there bytes)))
      ∙ sym (simp append_assoc) in
      record {
        captured = captured;
        announced = record { seconds = seconds; fraction = fraction; original = original; spelled = spelled };
        seconds = below at;
        fraction = below (at + 4);
        original = below (at + 12);
        fits = below (at + 8);
      }

  -- a whole record stands at a place within the file, or none does
  abbrev RecordOrNone : Type 0
  RecordOrNone = ((s : Stored) × IsStored order nano file at s) ⊎ ((fault : PcapFault) × IsBroken order (drop at file) at fault)

  with_header : at + 16 ≤ length file → RecordOrNone
  with_header there = let h = header_there there in elim (cases_lt 262144 h.captured) [
    | inl long ↦ inr (
      LongRecord at h.captured,
      (refl, record { more = drop (at + 16) file; announced = h.announced; over = long; fits = h.fits }),
    )
    | inr few ↦ elim (cases_lt (length file) (at + 16 + h.captured)) [
      | inl cut ↦ inr (
        CutRecord at,
        (refl, in_bytes h.captured (drop (at + 16) file) h.announced few (omega (arith, length-drop (at + 16) file))),
      )
      | inr within ↦ inl (_, stored order nano file at h few within)
    ]
  ]

  record_at : at < length file → RecordOrNone
  record_at inside = elim (cases_lt (length file) (at + 16)) [
    | inl short ↦ inr (CutRecord at, (refl, in_header (omega (arith, length-drop at file)) (omega (arith, length-drop at file))))
    | inr there ↦ with_header there
  ]

-- ---- all records
-- the records of a file, with the packets as they are stored
pub record IsWalked (file : List ℕ) (nano : Bool) (link : Link) (packets : List Stored) : Type 0 where
  pub capture : IsCapture file nano link (map (packet_in file) packets)
  pub within : All (IsWithin file) packets
  pub order : AreInOrder packets

-- a file that is a capture, or that has a fault
pub data Reads (file : List ℕ) : Type 0 where
  walked : (nano : Bool) (link : Link) (packets : List Stored) → IsWalked file nano link packets → Reads file
  faulty : (fault : PcapFault) → IsFault file fault → Reads file

module _ (order : Order) (nano : Bool) (link : Link) (file : List ℕ) (bytes : IsBytes file)
    (header : HasHeader file (header_of order nano link) (drop 24 file)) where
  ended : (at : ℕ) (packets : List Stored) → IsReadBefore order nano file at packets → length file ≤ at → Reads file
  ended at packets before done =
      walked nano link packets
      (record { capture = read_all order nano link file at packets header before done; within = before.within; order = before.in_order })

  walk : (fuel at : ℕ) (packets : List Stored) → IsReadBefore order nano file at packets → length file ≤ at + fuel → Reads file
  walk zero at packets before enough = ended at packets before (omega arith)
  walk (suc fuel) at packets before enough = elim (cases_lt at (length file)) [
    | inr done ↦ ended at packets before done
    | inl inside ↦ elim (record_at order nano file at bytes inside) [
      | inr none ↦ faulty none.0 (broken order file at none.0 (whole_before order nano link file at packets header before) none.1)
      | inl next ↦
          let s = next.0 in
          let place = next.1.place in
          walk fuel (s.start + s.len) (packets ++ s ∷ []) (read_more order nano file at packets s before next.1) (omega arith)
    ]
  ]

-- ---- the header
-- the byte order and the unit that the magic says, if it says them
unit_at : (order : Order) (file : List ℕ) → IsBytes file → 4 ≤ length file
    → ((nano : Bool) × (file ≡ number_bytes order 4 (magic nano) ++ drop 4 file)) ⊎ ((nano : Bool) → number_in order 4 file ≢ magic nano)
unit_at order file bytes long = elim (cases_eq (number_in order 4 file) (magic true)) [
  | inl nanos ↦ inl (true, spelled_four order file long bytes ∙ ap (λ n. number_bytes order 4 n ++ drop 4 file) nanos)
  | inr not_nanos ↦ elim (cases_eq (number_in order 4 file) (magic false)) [
    | inl micros ↦ inl (false, spelled_four order file long bytes ∙ ap (λ n. number_bytes order 4 n ++ drop 4 file) micros)
    | inr not_micros ↦ inr (neither not_nanos not_micros)
  ]
]
  where
    neither : number_in order 4 file ≢ magic true → number_in order 4 file ≢ magic false → (nano : Bool) → number_in order 4 file ≢ magic nano
    neither not_nanos not_micros true = not_nanos
    neither not_nanos not_micros false = not_micros

-- the link type of a number, if it is one
link_of : (number : ℕ) → ((link : Link) × (number ≡ link_type link)) ⊎ ((number ≢ 1) × (number ≢ 101))
link_of number = elim (cases_eq number 1) [
  | inl one ↦ inl (Ethernet, one)
  | inr not_one ↦ elim (cases_eq number 101) [ inl other ↦ inl (RawIp, other) | inr neither ↦ inr (not_one, neither) ]
]

-- a file of which the magic is known
module _ (order : Order) (nano : Bool) (file : List ℕ) (bytes : IsBytes file) (long : 24 ≤ length file)
    (spelled : file ≡ number_bytes order 4 (magic nano) ++ drop 4 file) where
  abbrev major : ℕ
  major = number_in order 2 (drop 4 file)

  abbrev minor : ℕ
  minor = number_in order 2 (drop 6 file)

  abbrev said : Header
  said = record { order = order; nano = nano; major = major; minor = minor; link = link_in order file }

  header : HasHeader file said (drop 24 file)
  header =
      has_header said file bytes long (record {
        magic_there = spelled;
        major_there = read_two order file 4 major (omega arith) bytes refl;
        minor_there = read_two order file 6 minor (omega arith) bytes refl;
        major = number_in-lt order 2 (drop 4 file) (IsBytes-drop 4 file bytes);
        minor = number_in-lt order 2 (drop 6 file) (IsBytes-drop 6 file bytes);
        link = refl;
      })

  with_unit : Reads file
  with_unit = elim (cases_eq major 2) [
    | inr other ↦ faulty (BadVersion major minor) (_, drop 24 file, header, refl, refl, λ both. other both.0)
    | inl two ↦ elim (cases_eq minor 4) [
      | inr other ↦ faulty (BadVersion major minor) (_, drop 24 file, header, refl, refl, λ both. other both.1)
      | inl four ↦ elim (link_of (link_in order file)) [
        | inr none ↦ faulty (BadLink (link_in order file)) (_, drop 24 file, header, two, four, refl, none.0, none.1)
        | inl link ↦
            let read = good_header said link.0 file (drop 24 file) two four link.1 header in
            walk order nano link.0 file bytes read (length file) 24 [] (read_none order nano file long) (omega arith)
      ]
    ]
  ]

pub reads : (file : List ℕ) → IsBytes file → Reads file
reads file bytes = elim (cases_lt (length file) 24) [
  | inl short ↦ faulty (ShortHeader (length file)) (short, refl)
  | inr long ↦ elim (unit_at Big file bytes (omega arith)) [
    | inl unit ↦ with_unit Big unit.0 file bytes long unit.1
    | inr not_big ↦ elim (unit_at Little file bytes (omega arith)) [
      | inl unit ↦ with_unit Little unit.0 file bytes long unit.1
      | inr not_little ↦ faulty (BadMagic (number_in Big 4 file)) (
        long,
        refl,
        no_magic file not_big not_little,
      )
    ]
  ]
]

-- bytes, as each of them
pub bytes_of : (file : List ℕ) → All (λ byte. byte < 256) file → IsBytes file
bytes_of file all i = elim (cases_lt i (length file)) [
  | inl inside ↦ all i 0 inside
  | inr past ↦ rw (get_or_past file i 0 past) (omega arith)
]
