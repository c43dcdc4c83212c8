-- The records of a file, one after another.
use Rattle.std.proofs.Common.{◌≡◌, ℕ, ◌+◌, ◌≤◌, Bool, List, [], ◌∷◌, ◌++◌, length, take, drop, map, get_or, refl, sym, ap, ◌∙◌, subst}
use Rattle.std.proofs.Common.{append_assoc, arith, All, inl, inr}
use Rattle.std.specs.List.{AllByRecursion}
use Rattle.std.proofs.lemmas.Bool.{cases_lt}
use Rattle.std.proofs.lemmas.List.{append-nil, drop_all, length-drop, map_push, get_or_append_left, take-append-le, length_push, get_or_push, take_at}
use Rattle.std.proofs.lemmas.List.Concat.{flat_map-append}
use Rattle.std.proofs.lemmas.List.Elements.{All-nil, All-push}
use Rattle.std.proofs.lemmas.List.Sums.{sum_by_push}
use Rattle.std.proofs.ByRecursion.{All-push as every_push}
use Rattle.pcap_records.specs.declared.capture.Stored.{Stored}
use Rattle.pcap_records.specs.declared.fault.PcapFault.{PcapFault}
use Rattle.pcap_records.specs.declared.fault.PcapFault.TheVariants.{ShortHeader, BadMagic, BadVersion, BadLink, CutRecord, LongRecord, OutOfMemory}
use Rattle.pcap_records.specs.declared.link.Link.{Link}
use Rattle.pcap_records.specs.declared.order.Order.{Order}
use Rattle.pcap_records.specs.Packets.{packet_in, records_length, AreInOrder, IsWithin}
use Rattle.pcap_records.specs.Format.{header_of, Record, IsRecord, record_bytes, packet_of}
use Rattle.pcap_records.specs.Captures.{HasHeader, records_bytes, IsCapture}
use Rattle.pcap_records.specs.Faults.{IsWholeBefore, IsFault}
use Rattle.pcap_records.specs.Records.{IsStored, IsBroken}

-- the records between the header and a place are read, and their packets stored
pub record IsReadBefore (order : Order) (nano : Bool) (file : List ℕ) (at : ℕ) (packets : List Stored) : Type 0 where
  pub records : List Record
  pub each : AllByRecursion IsRecord records
  pub spelled : drop 24 file ≡ records_bytes order records ++ drop at file
  pub within_file : at ≤ length file
  pub packets_are : map (packet_in file) packets ≡ map (packet_of nano) records
  pub within : All (IsWithin file) packets
  pub place : at ≡ 24 + records_length packets
  pub in_order : AreInOrder packets

none_in_order : AreInOrder []
none_in_order k d below = absurd (omega arith)

-- a packet after others in order, where its own record follows theirs
in_order_push : (packets : List Stored) (s : Stored) → AreInOrder packets → s.start ≡ 40 + records_length packets → AreInOrder (packets ++ s ∷ [])
in_order_push packets s before own k d below =
    elim (cases_lt k (length packets)) [
      | inl lt ↦
          let here : get_or (packets ++ s ∷ []) k d ≡ get_or packets k d = get_or_append_left packets (s ∷ []) d k lt in
          let front : take k (packets ++ s ∷ []) ≡ take k packets = take-append-le k packets (s ∷ []) (omega arith) in
          ap (λ (p : Stored). p.start) here ∙ before k d lt ∙ ap (λ ps. 40 + records_length ps) (sym front)
      | inr ge ↦
          let last : length packets ≡ k = omega (arith, length_push packets s) in
          let here : get_or (packets ++ s ∷ []) k d ≡ s = get_or_push packets s d k last in
          let front : take k (packets ++ s ∷ []) ≡ packets = take_at packets (s ∷ []) k last in
          ap (λ (p : Stored). p.start) here ∙ own ∙ ap (λ ps. 40 + records_length ps) (sym front)
    ]

pub read_none : (order : Order) (nano : Bool) (file : List ℕ) → 24 ≤ length file → IsReadBefore order nano file 24 []
read_none order nano file long =
    record {
      records = [];
      each = tt;
      spelled = refl;
      within_file = long;
      packets_are = refl;
      within = All-nil (IsWithin file);
      place = refl;
      in_order = none_in_order;
    }

pub read_more : (order : Order) (nano : Bool) (file : List ℕ) (at : ℕ) (packets : List Stored) (s : Stored) → IsReadBefore order nano file at packets
    → IsStored order nano file at s
    → IsReadBefore order nano file (s.start + s.len) (packets ++ s ∷ [])
read_more order nano file at packets s before next =
    let r = next.record_there in
    let front = records_bytes order before.records in
    let more : records_bytes order (before.records ++ r ∷ []) ≡ front ++ record_bytes order r =
    flat_map-append (record_bytes order) before.records (r ∷ []) ∙ ap (λ (w : List ℕ). front ++ w) (append-nil (record_bytes order r)) in
    record {
      records = before.records ++ r ∷ [];
      each = every_push IsRecord before.records r before.each next.each;
      spelled =
          before.spelled ∙ ap (λ (w : List ℕ). front ++ w) next.spelled ∙ sym (append_assoc front (record_bytes order r) (drop (s.start + s.len) file))
          ∙ ap (λ (w : List ℕ). w ++ drop (s.start + s.len) file) (sym more);
      within_file = next.within;
      packets_are = map_push (packet_in file) packets s ∙ ap (λ w. w ++ packet_in file s ∷ []) before.packets_are
          ∙ ap (λ p. map (packet_of nano) before.records ++ p ∷ []) next.packet ∙ sym (map_push (packet_of nano) before.records r);
      within = All-push (IsWithin file) packets s before.within next.within;
      place = omega (arith, sum_by_push (λ (p : Stored). 16 + p.len) packets s, next.place, before.place);
      in_order = in_order_push packets s before.in_order (omega (arith, next.place, before.place));
    }

-- at the end of the file it is a capture with these packets
pub read_all : (order : Order) (nano : Bool) (link : Link) (file : List ℕ) (at : ℕ) (packets : List Stored)
    → HasHeader file (header_of order nano link) (drop 24 file)
    → IsReadBefore order nano file at packets → length file ≤ at → IsCapture file nano link (map (packet_in file) packets)
read_all order nano link file at packets header before done =
    let end : drop 24 file ≡ records_bytes order before.records =
    before.spelled ∙ ap (λ (w : List ℕ). records_bytes order before.records ++ w) (drop_all at file done) ∙ append-nil (records_bytes order before.records) in
    record {
      order = order;
      records = before.records;
      each = before.each;
      header = subst (λ (w : List ℕ). HasHeader file (header_of order nano link) w) end header;
      packets_are = before.packets_are;
    }

pub whole_before : (order : Order) (nano : Bool) (link : Link) (file : List ℕ) (at : ℕ) (packets : List Stored)
    → HasHeader file (header_of order nano link) (drop 24 file) → IsReadBefore order nano file at packets → IsWholeBefore file order at (drop at file)
whole_before order nano link file at packets header before =
    record {
      nano = nano;
      link = link;
      records = before.records;
      each = before.each;
      header = subst (λ (w : List ℕ). HasHeader file (header_of order nano link) w) before.spelled header;
      place = omega (arith, length-drop at file, before.within_file);
    }

-- where no whole record stands at a place, the file has that fault
pub broken : (order : Order) (file : List ℕ) (at : ℕ) (fault : PcapFault) → IsWholeBefore file order at (drop at file) → IsBroken order (drop at file) at fault
    → IsFault file fault
broken order file at (ShortHeader len) before is = absurd is
broken order file at (BadMagic found) before is = absurd is
broken order file at (BadVersion major minor) before is = absurd is
broken order file at (BadLink found) before is = absurd is
broken order file at (CutRecord place) before is =
    (order, drop at file, subst (λ n. IsWholeBefore file order n (drop at file)) (sym is.0) before, is.1)
broken order file at (LongRecord place len) before is =
    (order, drop at file, subst (λ n. IsWholeBefore file order n (drop at file)) (sym is.0) before, is.1)
broken order file at OutOfMemory before is = absurd is
