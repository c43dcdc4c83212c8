-- What is read can be written.
use Rattle.std.proofs.Common.{◌≡◌, ℕ, ◌%◌, ◌<◌, Bool, true, false, List, [], ◌∷◌, ◌++◌, length, map, All, subst, arith}
use Rattle.std.specs.List.{AllByRecursion}
use Rattle.std.proofs.lemmas.List.Elements.{recursion_from_All, All-from_recursion, All-weaker}
use Rattle.pcap_records.specs.declared.link.Link.{Link}
use Rattle.pcap_records.specs.declared.order.Order.{Order}
use Rattle.pcap_records.specs.Packets.{Packet}
use Rattle.pcap_records.specs.Format.{header_of, header_bytes, nanos_of, Record, IsRecord, record_header, record_bytes, packet_of}
use Rattle.pcap_records.specs.Captures.{records_bytes, IsCapture}
use Rattle.pcap_records.specs.Output.{IsWritable}

each_part : {X : Type 0} (P : X → Type 0) (xs ys : List X) → AllByRecursion P (xs ++ ys) → AllByRecursion P xs × AllByRecursion P ys
each_part P [] ys all = (tt, all)
each_part P (x ∷ xs) ys all =
    let parts = each_part P xs ys all.1 in
    ((all.0, parts.0), parts.1)

nanos_below : (nano : Bool) (fraction : ℕ) → nanos_of nano fraction < 1000000000
nanos_below true fraction = omega arith
nanos_below false fraction = omega arith

nanos_whole : (nano : Bool) (fraction : ℕ) → nano ≡ false → nanos_of nano fraction % 1000 ≡ 0
nanos_whole true fraction micro = absurd (cc)
nanos_whole false fraction micro = omega arith

writable : (nano : Bool) (r : Record) → IsRecord r → AllByRecursion (λ b. b < 256) r.bytes → IsWritable nano (packet_of nano r)
writable nano r is bytes =
    record {
      seconds = is.seconds;
      below = nanos_below nano r.fraction;
      whole = nanos_whole nano r.fraction;
      original = is.original;
      bytes = All-from_recursion (λ b. b < 256) r.bytes bytes;
      size = is.bytes;
    }

each_writable : (order : Order) (nano : Bool) (records : List Record) → AllByRecursion IsRecord records
    → AllByRecursion (λ b. b < 256) (records_bytes order records)
    → AllByRecursion (IsWritable nano) (map (packet_of nano) records)
each_writable order nano [] each bytes = tt
each_writable order nano (r ∷ rs) each bytes =
    let parts = each_part (λ b. b < 256) (record_bytes order r) (records_bytes order rs) bytes in
    let own = each_part (λ b. b < 256) (record_header order r.seconds r.fraction (length r.bytes) r.original) r.bytes parts.0 in
    (writable nano r each.0 own.1, each_writable order nano rs each.1 parts.1)

pub readable : (file : List ℕ) (nano : Bool) (link : Link) (packets : List Packet) → All (λ b. b < 256) file → IsCapture file nano link packets
    → All (IsWritable nano) packets
readable file nano link packets bytes is =
    let by_one = recursion_from_All (λ b. b < 256) file bytes in
    let spelled = subst (λ (w : List ℕ). AllByRecursion (λ b. b < 256) w) is.header.spelled by_one in
    let parts = each_part (λ b. b < 256) (header_bytes (header_of is.order nano link) is.header.free) (records_bytes is.order is.records) spelled in
    let all : AllByRecursion (IsWritable nano) packets = rw is.packets_are (each_writable is.order nano is.records is.each parts.1) in
    All-from_recursion (IsWritable nano) packets all

-- in nanoseconds every packet can be written that can be in its own unit
in_nanos : (nano : Bool) (p : Packet) → IsWritable nano p → IsWritable true p
in_nanos nano p w = record { seconds = w.seconds; below = w.below; whole = λ micro. absurd (cc); original = w.original; bytes = w.bytes; size = w.size }

pub readable_in_nanos : (file : List ℕ) (nano : Bool) (link : Link) (packets : List Packet) → All (λ b. b < 256) file → IsCapture file nano link packets
    → All (IsWritable true) packets
readable_in_nanos file nano link packets bytes is =
    All-weaker (IsWritable nano) (IsWritable true) (in_nanos nano) packets (readable file nano link packets bytes is)
