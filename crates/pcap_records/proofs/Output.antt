-- What is written is read again.
use Rattle.std.proofs.Common.{◌≡◌, ℕ, zero, suc, ◌+◌, ◌%◌, ◌^◌, ◌<◌, ◌≤◌, Bool, true, false, List, [], ◌∷◌, ◌++◌, length, drop, map, All, refl, sym, ap}
use Rattle.std.proofs.Common.{subst, ◌∙◌, inl, inr, append_assoc, arith, lit<}
use Rattle.std.specs.List.{flat_map, AllByRecursion}
use Rattle.std.proofs.lemmas.Bool.{cases_lt}
use Rattle.std.proofs.lemmas.List.{append-nil, length-append, length-drop, drop_at, drop-drop, get_or_past}
use Rattle.std.proofs.lemmas.List.Concat.{flat_map-append}
use Rattle.std.proofs.lemmas.List.Elements.{recursion_from_All, All-append, All-from_recursion}
use Rattle.std.specs.Int.{bytes_high_first}
use Rattle.std_lemmas.proofs.Numbers.{byte_at-lt}
use Rattle.cell_cutter.specs.Messages.{message_header}
use Rattle.pcap_records.specs.declared.link.Link.{Link}
use Rattle.pcap_records.specs.declared.link.Link.TheVariants.{Ethernet, RawIp}
use Rattle.pcap_records.specs.declared.order.Order.TheVariants.{Big, Little}
use Rattle.pcap_records.specs.Packets.{Packet}
use Rattle.pcap_records.specs.Format.{header_of, number_bytes, number_in, link_type, nanos_of, Record, IsRecord, record_bytes, packet_of}
use Rattle.pcap_records.specs.Captures.{records_bytes, IsCapture}
use Rattle.pcap_records.specs.Output.{message_of, message_packet, fraction_of, record_of, header_text, record_text, capture_text, IsMessage, IsWritable}
use Rattle.pcap_records.proofs.Headers.{length-header_bytes}
use Rattle.pcap_records.proofs.Once.{length-record_bytes}
use Rattle.pcap_records.proofs.Numbers.{IsBytes, IsBytes-drop, length-number_bytes, number_in-number_bytes, number_in-lt}

is_bytes : (xs : List ℕ) → All (λ b. b < 256) xs → IsBytes xs
is_bytes xs all i =
    elim (cases_lt i (length xs)) [
      | inl lt ↦ all i 0 lt
      | inr ge ↦ rw (get_or_past xs i 0 ge) (lit< tt)
    ]

-- nanoseconds in the unit of the file, and back
nanos_again : (nano : Bool) (n : ℕ) → n < 1000000000 → (nano ≡ false → n % 1000 ≡ 0) → nanos_of nano (fraction_of nano n) ≡ n
nanos_again true n below whole = omega arith
nanos_again false n below whole = let exact : n % 1000 ≡ 0 = whole refl in omega arith

fraction_fits : (nano : Bool) (n : ℕ) → n < 1000000000 → fraction_of nano n < 2 ^ 32
fraction_fits true n below = omega arith
fraction_fits false n below = omega arith

record_of_message : (nano : Bool) (m : List ℕ) → IsMessage nano m → IsRecord (record_of nano (message_packet m))
record_of_message nano m is =
    let fits = is_bytes m is.bytes in
    record {
      seconds = number_in-lt Big 4 m fits;
      fraction = fraction_fits nano (number_in Big 4 (drop 4 m)) is.below;
      original = number_in-lt Big 4 (drop 12 m) (IsBytes-drop 12 m fits);
      bytes = omega (arith, length-drop 16 m, is.size);
    }

packet_again : (nano : Bool) (m : List ℕ) → IsMessage nano m → message_packet m ≡ packet_of nano (record_of nano (message_packet m))
packet_again nano m is =
    ap (λ (n : ℕ). record { seconds = number_in Big 4 m; nanos = n; original = number_in Big 4 (drop 12 m); bytes = drop 16 m })
    (sym (nanos_again nano (number_in Big 4 (drop 4 m)) is.below is.whole))

-- ---- all messages

abbrev records_of : Bool → List (List ℕ) → List Record
records_of nano messages = map (λ m. record_of nano (message_packet m)) messages

text_is : (nano : Bool) (messages : List (List ℕ)) → flat_map (record_text nano) messages ≡ records_bytes Little (records_of nano messages)
text_is nano [] = refl
text_is nano (m ∷ ms) = ap (λ (w : List ℕ). record_text nano m ++ w) (text_is nano ms)

each_message : (nano : Bool) (messages : List (List ℕ)) (records : List Record) → AllByRecursion (IsMessage nano) messages → AllByRecursion IsRecord records
    → AllByRecursion IsRecord (records_of nano messages ++ records)
each_message nano [] records all each = each
each_message nano (m ∷ ms) records all each = (record_of_message nano m all.0, each_message nano ms records all.1 each)

packets_again : (nano : Bool) (messages : List (List ℕ)) (records : List Record) → AllByRecursion (IsMessage nano) messages
    → map message_packet messages ++ map (packet_of nano) records ≡ map (packet_of nano) (records_of nano messages ++ records)
packets_again nano [] records all = refl
packets_again nano (m ∷ ms) records all =
    ap (λ (p : Packet). p ∷ (map message_packet ms ++ map (packet_of nano) records)) (packet_again nano m all.0)
    ∙ ap (λ (ps : List Packet). packet_of nano (record_of nano (message_packet m)) ∷ ps) (packets_again nano ms records all.1)

link_fits : (link : Link) → link_type link < 2 ^ 32
link_fits Ethernet = lit< tt
link_fits RawIp = lit< tt

abbrev free_text : List ℕ
free_text = number_bytes Little 4 0 ++ number_bytes Little 4 0 ++ number_bytes Little 4 262144

length-free_text : length free_text ≡ 12
length-free_text =
    let a = length-number_bytes Little 4 0 in
    let b = length-number_bytes Little 4 262144 in
    simp length-append (omega arith)

pub length-header_text : (nano : Bool) (link : Link) → length (header_text nano link) ≡ 24
length-header_text nano link = length-header_bytes (header_of Little nano link) free_text length-free_text

pub length-record_text : (nano : Bool) (m : List ℕ) → 16 ≤ length m → length (record_text nano m) ≡ length m
length-record_text nano m long = length-record_bytes Little (record_of nano (message_packet m)) ∙ omega (arith, length-drop 16 m)

pub read_again : (nano : Bool) (link : Link) (messages : List (List ℕ)) (records : List Record) → All (IsMessage nano) messages
    → AllByRecursion IsRecord records
    → IsCapture (capture_text nano link messages ++ records_bytes Little records) nano link (map message_packet messages ++ map (packet_of nano) records)
read_again nano link messages records all each =
    let by_one = recursion_from_All (IsMessage nano) messages all in
    let records_follow : flat_map (record_text nano) messages ++ records_bytes Little records ≡ records_bytes Little (records_of nano messages ++ records) =
    ap (λ (w : List ℕ). w ++ records_bytes Little records) (text_is nano messages)
    ∙ sym (flat_map-append (record_bytes Little) (records_of nano messages) records) in
    record {
      order = Little;
      records = records_of nano messages ++ records;
      each = each_message nano messages records by_one each;
      header = record {
        major = lit< tt;
        minor = lit< tt;
        link = link_fits link;
        free = free_text;
        twelve = length-free_text;
        spelled = append_assoc (header_text nano link) (flat_map (record_text nano) messages) (records_bytes Little records)
            ∙ ap (λ (w : List ℕ). header_text nano link ++ w) records_follow;
      };
      packets_are = packets_again nano messages records by_one;
    }

pub read_again_alone : (nano : Bool) (link : Link) (messages : List (List ℕ)) → All (IsMessage nano) messages
    → IsCapture (capture_text nano link messages) nano link (map message_packet messages)
read_again_alone nano link messages all =
    let whole = read_again nano link messages [] all tt in
    subst (λ (w : List ℕ). IsCapture w nano link (map message_packet messages)) (append-nil (capture_text nano link messages))
    (subst (λ (ps : List Packet). IsCapture (capture_text nano link messages ++ []) nano link ps) (append-nil (map message_packet messages)) whole)

-- ---- the message of a packet

bytes_fit : (n x : ℕ) → AllByRecursion (λ b. b < 256) (bytes_high_first n x)
bytes_fit zero x = tt
bytes_fit (suc n) x = (byte_at-lt n x, bytes_fit n x)

number_fits : (n x : ℕ) → All (λ b. b < 256) (number_bytes Big n x)
unfolding number_bytes
number_fits n x = All-from_recursion (λ b. b < 256) (bytes_high_first n x) (bytes_fit n x)

-- where the fields of a message stand
record IsSpelled (p : Packet) (m : List ℕ) : Type 0 where
  pub zero_is : m ≡ number_bytes Big 4 p.seconds
      ++ (number_bytes Big 4 p.nanos ++ (number_bytes Big 4 (length p.bytes) ++ (number_bytes Big 4 p.original ++ p.bytes)))
  pub four_is : drop 4 m ≡ number_bytes Big 4 p.nanos ++ (number_bytes Big 4 (length p.bytes) ++ (number_bytes Big 4 p.original ++ p.bytes))
  pub eight_is : drop 8 m ≡ number_bytes Big 4 (length p.bytes) ++ (number_bytes Big 4 p.original ++ p.bytes)
  pub twelve_is : drop 12 m ≡ number_bytes Big 4 p.original ++ p.bytes
  pub sixteen_is : drop 16 m ≡ p.bytes

-- the fields of a message one after another
abbrev pub fields_of : Packet → List ℕ
fields_of p = number_bytes Big 4 p.seconds ++ number_bytes Big 4 p.nanos ++ number_bytes Big 4 (length p.bytes) ++ number_bytes Big 4 p.original ++ p.bytes

pub message_of-fields : (p : Packet) → message_of p ≡ fields_of p
unfolding number_bytes message_header
message_of-fields p = refl

spelled : (p : Packet) → IsSpelled p (message_of p)
spelled p =
    let m = message_of p in
    let s = number_bytes Big 4 p.seconds in
    let n = number_bytes Big 4 p.nanos in
    let l = number_bytes Big 4 (length p.bytes) in
    let o = number_bytes Big 4 p.original in
    let apart : fields_of p ≡ s ++ (n ++ (l ++ (o ++ p.bytes))) = simp append_assoc in
    let e0 : m ≡ s ++ (n ++ (l ++ (o ++ p.bytes))) = message_of-fields p ∙ apart in
    let e4 : drop 4 m ≡ n ++ (l ++ (o ++ p.bytes)) = ap (drop 4) e0 ∙ drop_at s (n ++ (l ++ (o ++ p.bytes))) 4 (length-number_bytes Big 4 p.seconds) in
    let e8 : drop 8 m ≡ l ++ (o ++ p.bytes) = sym (drop-drop 4 4 m) ∙ ap (drop 4) e4 ∙ drop_at n (l ++ (o ++ p.bytes)) 4 (length-number_bytes Big 4 p.nanos) in
    let e12 : drop 12 m ≡ o ++ p.bytes = sym (drop-drop 4 8 m) ∙ ap (drop 4) e8 ∙ drop_at l (o ++ p.bytes) 4 (length-number_bytes Big 4 (length p.bytes)) in
    let e16 : drop 16 m ≡ p.bytes = sym (drop-drop 4 12 m) ∙ ap (drop 4) e12 ∙ drop_at o p.bytes 4 (length-number_bytes Big 4 p.original) in
    record { zero_is = e0; four_is = e4; eight_is = e8; twelve_is = e12; sixteen_is = e16 }

nanos_read : (p : Packet) → p.nanos < 256 ^ 4 → number_in Big 4 (drop 4 (message_of p)) ≡ p.nanos
nanos_read p fits = ap (number_in Big 4) (spelled p).four_is
    ∙ number_in-number_bytes Big 4 p.nanos (number_bytes Big 4 (length p.bytes) ++ (number_bytes Big 4 p.original ++ p.bytes)) fits

pub length-message_of : (p : Packet) → length (message_of p) ≡ 16 + length p.bytes
length-message_of p =
    let a = length-number_bytes Big 4 p.seconds in
    let b = length-number_bytes Big 4 p.nanos in
    let c = length-number_bytes Big 4 (length p.bytes) in
    let d = length-number_bytes Big 4 p.original in
    let long : length (fields_of p) ≡ 16 + length p.bytes = simp length-append (omega arith) in
    ap length (message_of-fields p) ∙ long

pub message_is : (nano : Bool) (p : Packet) → IsWritable nano p → IsMessage nano (message_of p)
message_is nano p w =
    let len = length-message_of p in
    let read = nanos_read p (omega (arith, w.below)) in
    let captured : number_in Big 4 (drop 8 (message_of p)) ≡ length p.bytes =
    ap (number_in Big 4) (spelled p).eight_is
    ∙ number_in-number_bytes Big 4 (length p.bytes) (number_bytes Big 4 p.original ++ p.bytes) (omega (arith, w.size)) in
    let s = number_bytes Big 4 p.seconds in
    let n = number_bytes Big 4 p.nanos in
    let l = number_bytes Big 4 (length p.bytes) in
    let o = number_bytes Big 4 p.original in
    record {
      bytes =
          subst (All (λ b. b < 256)) (sym (message_of-fields p))
          (All-append (λ b. b < 256) (s ++ n ++ l ++ o) p.bytes
          (All-append (λ b. b < 256) (s ++ n ++ l) o
          (All-append (λ b. b < 256) (s ++ n) l (All-append (λ b. b < 256) s n (number_fits 4 p.seconds) (number_fits 4 p.nanos))
          (number_fits 4 (length p.bytes))) (number_fits 4 p.original))
          w.bytes);
      header = omega arith;
      size = omega (arith, w.size);
      below = rw read w.below;
      whole = λ micro. rw read (w.whole micro);
      captured = omega arith;
    }

pub packet_is : (nano : Bool) (p : Packet) → IsWritable nano p → message_packet (message_of p) ≡ p
packet_is nano p w =
    let m = message_of p in
    let made : ℕ → ℕ → ℕ → List ℕ → Packet = λ a b c d. record { seconds = a; nanos = b; original = c; bytes = d } in
    let s : number_in Big 4 m ≡ p.seconds =
    ap (number_in Big 4) (spelled p).zero_is
    ∙ number_in-number_bytes Big 4 p.seconds
    (number_bytes Big 4 p.nanos ++ (number_bytes Big 4 (length p.bytes) ++ (number_bytes Big 4 p.original ++ p.bytes))) w.seconds in
    let n = nanos_read p (omega (arith, w.below)) in
    let o : number_in Big 4 (drop 12 m) ≡ p.original = ap (number_in Big 4) (spelled p).twelve_is
    ∙ number_in-number_bytes Big 4 p.original p.bytes w.original in
    let whole : made (number_in Big 4 m) (number_in Big 4 (drop 4 m)) (number_in Big 4 (drop 12 m)) (drop 16 m) ≡ made p.seconds p.nanos p.original p.bytes =
    ap (λ a. made a (number_in Big 4 (drop 4 m)) (number_in Big 4 (drop 12 m)) (drop 16 m)) s
    ∙ ap (λ b. made p.seconds b (number_in Big 4 (drop 12 m)) (drop 16 m)) n
    ∙ ap (λ c. made p.seconds p.nanos c (drop 16 m)) o ∙ ap (λ d. made p.seconds p.nanos p.original d) (spelled p).sixteen_is in
    whole
