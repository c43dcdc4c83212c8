-- The record of a packet, as it is put at the end of a capture.
use Rattle.std.proofs.Common.{◌≡◌, ℕ, ◌+◌, ◌-◌, ◌^◌, ◌<◌, ◌≤◌, Bool, List, [], ◌∷◌, ◌++◌, length, take, drop, sym, ap, subst, ◌∙◌, append_assoc, arith}
use Rattle.std.specs.List.{flat_map}
use Rattle.std.proofs.lemmas.List.{drop_at, drop_all, append-nil, length-append, length-drop, length-take-le}
use Rattle.std.proofs.lemmas.List.Concat.{flat_map-append}
use Rattle.card_core.specs.declared.plan.Planned.{Planned}
use Rattle.pcap_records.specs.declared.link.Link.{Link}
use Rattle.pcap_records.specs.declared.order.Order.TheVariants.{Big, Little}
use Rattle.pcap_records.specs.Packets.{Packet}
use Rattle.pcap_records.specs.Format.{number_bytes, number_in, record_header, record_bytes}
use Rattle.pcap_records.specs.Output.{message_of, message_packet, record_of, fraction_of, header_text, record_text, capture_text}
use Rattle.pcap_records.proofs.Filling.{IsFilled, number_more, put_at}
use Rattle.pcap_records.proofs.Numbers.{length-number_bytes, number_in-number_bytes}
use Rattle.pcap_records.proofs.Output.{message_of-fields}
use Rattle.descriptor_runs.specs.OutputSteps.{record_message}
use borrow.Rule.Slice.PartMut.{put_mid}

-- ---- the header of a record
-- a number of four bytes more, where `rest` places are left
four_more : (old written now new : List ℕ) (at rest n : ℕ) → length old ≡ at + rest → 4 ≤ rest → IsFilled old written at now
    → new ≡ number_bytes Little 4 n ++ drop 4 (take rest (drop at now)) → IsFilled old (written ++ number_bytes Little 4 n) (at + 4) (put_mid at rest now new)
four_more old written now new at rest n room fits filled e =
    let long : length now ≡ length written + length (drop at old) = ap length filled.spelled ∙ length-append written (drop at old) in
    let same : length now - at ≡ rest = omega (arith, length-drop at old, filled.place) in
    let put : put_mid at rest now new ≡ take at now ++ (number_bytes Little 4 n ++ drop (at + 4) now) =
    subst (λ r. new ≡ number_bytes Little 4 n ++ drop 4 (take r (drop at now))
    → put_mid at r now new ≡ take at now ++ (number_bytes Little 4 n ++ drop (at + 4) now))
    same (put_at at 4 now new (number_bytes Little 4 n)) e in
    number_more old written now (put_mid at rest now new) at 4 n filled put

-- a header that is written number by number
pub header_written : (s f c o : ℕ) (rest b1 w2 w3 w4 : List ℕ) → length rest ≡ 12
    → b1 ≡ number_bytes Little 4 s ++ rest
    → w2 ≡ number_bytes Little 4 f ++ drop 4 (take 12 (drop 4 b1))
    → w3 ≡ number_bytes Little 4 c ++ drop 4 (take 8 (drop 8 (put_mid 4 12 b1 w2)))
    → w4 ≡ number_bytes Little 4 o ++ drop 4 (take 4 (drop 12 (put_mid 8 8 (put_mid 4 12 b1 w2) w3)))
    → put_mid 12 4 (put_mid 8 8 (put_mid 4 12 b1 w2) w3) w4 ≡ record_header Little s f c o
header_written s f c o rest b1 w2 w3 w4 len e1 e2 e3 e4 =
    let first = number_bytes Little 4 s in
    let front : length first ≡ 4 = length-number_bytes Little 4 s in
    let room : length b1 ≡ 16 = ap length e1 ∙ length-append first rest ∙ omega (arith, front, len) in
    let after : drop 4 b1 ≡ rest = ap (drop 4) e1 ∙ drop_at first rest 4 front in
    let d1 : IsFilled b1 first 4 b1 = record { spelled = e1 ∙ ap (λ w. first ++ w) (sym after); place = front } in
    let d2 = four_more b1 _ b1 w2 4 12 f room (omega arith) d1 e2 in
    let d3 = four_more b1 _ (put_mid 4 12 b1 w2) w3 8 8 c room (omega arith) d2 e3 in
    let d4 = four_more b1 _ (put_mid 8 8 (put_mid 4 12 b1 w2) w3) w4 12 4 o room (omega arith) d3 e4 in
    let none : drop 16 b1 ≡ [] = drop_all 16 b1 (omega arith) in
    d4.spelled ∙ ap (λ w. record_header Little s f c o ++ w) none ∙ append-nil (record_header Little s f c o)

-- ---- the packet that a message stands for, whatever its nanoseconds
packet_again : (p : Packet) → p.seconds < 2 ^ 32 → p.nanos < 2 ^ 32 → p.original < 2 ^ 32 → message_packet (message_of p) ≡ p
packet_again p seconds nanos original =
    let m = message_of p in
    let s = number_bytes Big 4 p.seconds in
    let n = number_bytes Big 4 p.nanos in
    let l = number_bytes Big 4 (length p.bytes) in
    let o = number_bytes Big 4 p.original in
    let s-long = length-number_bytes Big 4 p.seconds in
    let n-long = length-number_bytes Big 4 p.nanos in
    let l-long = length-number_bytes Big 4 (length p.bytes) in
    let o-long = length-number_bytes Big 4 p.original in
    let e0 : m ≡ s ++ (n ++ (l ++ (o ++ p.bytes))) = message_of-fields p ∙ simp append_assoc in
    let e4 : drop 4 m ≡ n ++ (l ++ (o ++ p.bytes)) = ap (drop 4) e0 ∙ drop_at s (n ++ (l ++ (o ++ p.bytes))) 4 s-long in
    let front : length (s ++ n ++ l) ≡ 12 = simp length-append (omega arith) in
    let e12 : drop 12 m ≡ o ++ p.bytes = ap (drop 12) (message_of-fields p ∙ append_assoc (s ++ n ++ l) o p.bytes)
    ∙ drop_at (s ++ n ++ l) (o ++ p.bytes) 12 front in
    let whole : length (s ++ n ++ l ++ o) ≡ 16 = simp length-append (omega arith) in
    let e16 : drop 16 m ≡ p.bytes = ap (drop 16) (message_of-fields p) ∙ drop_at (s ++ n ++ l ++ o) p.bytes 16 whole in
    let made : ℕ → ℕ → ℕ → List ℕ → Packet = λ a b c d. record { seconds = a; nanos = b; original = c; bytes = d } in
    let first = ap (number_in Big 4) e0 ∙ number_in-number_bytes Big 4 p.seconds (n ++ (l ++ (o ++ p.bytes))) (omega arith) in
    let second = ap (number_in Big 4) e4 ∙ number_in-number_bytes Big 4 p.nanos (l ++ (o ++ p.bytes)) (omega arith) in
    let third = ap (number_in Big 4) e12 ∙ number_in-number_bytes Big 4 p.original p.bytes (omega arith) in
    let again : made (number_in Big 4 m) (number_in Big 4 (drop 4 m)) (number_in Big 4 (drop 12 m)) (drop 16 m) ≡ made p.seconds p.nanos p.original p.bytes =
    ap (λ a. made a (number_in Big 4 (drop 4 m)) (number_in Big 4 (drop 12 m)) (drop 16 m)) first
    ∙ ap (λ b. made p.seconds b (number_in Big 4 (drop 12 m)) (drop 16 m)) second
    ∙ ap (λ c. made p.seconds p.nanos c (drop 16 m)) third ∙ ap (λ d. made p.seconds p.nanos p.original d) e16 in
    again

-- ---- a record more
-- the numbers of a packet are of 32 bits
pub record HasNumbers (packet : Planned) : Type 0 where
  pub seconds : packet.seconds < 2 ^ 32
  pub nanos : packet.nanos < 2 ^ 32
  pub original : packet.original < 2 ^ 32

-- the record of a packet's message: its header and its captured bytes
record_is : (nano : Bool) (packet : Planned) (bytes : List ℕ) → HasNumbers packet → packet.start + packet.len ≤ length bytes
    → record_text nano (record_message packet bytes)
    ≡ record_header Little packet.seconds (fraction_of nano packet.nanos) packet.len packet.original ++ take packet.len (drop packet.start bytes)
record_is nano packet bytes fits place =
    let captured = take packet.len (drop packet.start bytes) in
    let p : Packet = record { seconds = packet.seconds; nanos = packet.nanos; original = packet.original; bytes = captured } in
    let len : length captured ≡ packet.len = length-take-le packet.len (drop packet.start bytes) (omega (arith, length-drop packet.start bytes)) in
    ap (λ q. record_bytes Little (record_of nano q)) (packet_again p fits.seconds fits.nanos fits.original)
    ∙ ap (λ k. record_header Little packet.seconds (fraction_of nano packet.nanos) k packet.original ++ captured) len

-- the text of a capture with a message more
text_more : (nano : Bool) (link : Link) (messages : List (List ℕ)) (m : List ℕ)
    → capture_text nano link (messages ++ m ∷ []) ≡ capture_text nano link messages ++ record_text nano m
text_more nano link messages m =
    let records = flat_map (record_text nano) messages in
    let more : flat_map (record_text nano) (messages ++ m ∷ []) ≡ records ++ record_text nano m =
    flat_map-append (record_text nano) messages (m ∷ []) ∙ ap (λ w. records ++ w) (append-nil (record_text nano m)) in
    ap (λ w. header_text nano link ++ w) more ∙ sym (append_assoc (header_text nano link) records (record_text nano m))

pub record_more : (nano : Bool) (link : Link) (messages : List (List ℕ)) (packet : Planned) (bytes header text text2 text3 : List ℕ) → HasNumbers packet
    → packet.start + packet.len ≤ length bytes
    → header ≡ record_header Little packet.seconds (fraction_of nano packet.nanos) packet.len packet.original
    → text2 ≡ text ++ header → text3 ≡ text2 ++ take packet.len (drop packet.start bytes)
    → text ≡ capture_text nano link messages → text3 ≡ capture_text nano link (messages ++ record_message packet bytes ∷ [])
record_more nano link messages packet bytes header text text2 text3 fits place header-is second third first =
    let captured = take packet.len (drop packet.start bytes) in
    let m = record_message packet bytes in
    let added : header ++ captured ≡ record_text nano m =
    ap (λ w. w ++ captured) header-is ∙ sym (record_is nano packet bytes fits place) in
    third ∙ ap (λ w. w ++ captured) second ∙ append_assoc text header captured ∙ ap (λ w. text ++ w) added
    ∙ ap (λ w. w ++ record_text nano m) first ∙ sym (text_more nano link messages m)
