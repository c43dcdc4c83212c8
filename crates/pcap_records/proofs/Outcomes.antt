-- What is to be answered of a file: it is a capture with its packets, or has a fault, and only one of these.
use Rattle.std.proofs.Common.{◌≡◌, ◌⊎◌, ℕ, zero, suc, ◌+◌, ◌<◌, ◌≤◌, Bool, List, [], ◌++◌, length, take, map, refl, sym, ap, subst, ◌∙◌, inl, inr, arith}
use Rattle.std.proofs.lemmas.Bool.{cases_lt}
use Rattle.std.proofs.lemmas.List.{append-nil, take_at}
use Rattle.pcap_records.specs.declared.fault.PcapFault.{PcapFault}
use Rattle.pcap_records.specs.declared.fault.PcapFault.TheVariants.{ShortHeader, BadMagic, BadVersion, BadLink, CutRecord, LongRecord, OutOfMemory}
use Rattle.pcap_records.specs.declared.link.Link.{Link}
use Rattle.pcap_records.specs.declared.link.Link.TheVariants.{Ethernet, RawIp}
use Rattle.pcap_records.specs.declared.order.Order.{Order}
use Rattle.pcap_records.specs.Packets.{Packet}
use Rattle.pcap_records.specs.Format.{number_bytes, magic, link_type, Header, header_of, Record, packet_of}
use Rattle.pcap_records.specs.Captures.{HasHeader, records_bytes, IsCapture}
use Rattle.pcap_records.specs.Faults.{IsWholeBefore, IsCut, in_header, in_bytes, IsLong, IsFault}
use Rattle.pcap_records.proofs.Numbers.{length-number_bytes}
use Rattle.pcap_records.proofs.Headers.{header_long}
use Rattle.pcap_records.proofs.Once.{spelled_apart, link_once, header_once, no_record_at_end, no_record_when_cut, no_record_when_long}
use Rattle.pcap_records.proofs.Once.{Announced, AreAllRecords, announced_once, announced_long, long_announced, records_once}

pub data Outcome : Type 0 where
  is_capture : Bool → Link → List Packet → Outcome
  has_fault : PcapFault → Outcome

abbrev pub IsOutcome : List ℕ → Outcome → Type 0
IsOutcome file (is_capture nano link packets) = IsCapture file nano link packets
IsOutcome file (has_fault fault) = IsFault file fault

-- ---- how far a file is in order

-- The file has its 24 bytes; has a header; has one of version 2.4; has one of a link type that is read.
IsSound : ℕ → List ℕ → Type 0
IsSound zero file = Unit {0}
IsSound (suc zero) file = 24 ≤ length file
IsSound (suc (suc zero)) file = (h : Header) × (rest : List ℕ) × HasHeader file h rest
IsSound (suc (suc (suc zero))) file = (h : Header) × (rest : List ℕ) × HasHeader file h rest × (h.major ≡ 2) × (h.minor ≡ 4)
IsSound (suc (suc (suc (suc zero)))) file = (order : Order) × (nano : Bool) × (link : Link) × (rest : List ℕ) × HasHeader file (header_of order nano link) rest
IsSound (suc (suc (suc (suc (suc k))))) file = ⊥

sound_before : (k : ℕ) (file : List ℕ) → IsSound (suc k) file → IsSound k file
unfolding IsSound
sound_before zero file s = tt
sound_before (suc zero) file s = omega (arith, header_long file s.0 s.1 s.2)
sound_before (suc (suc zero)) file s = (s.0, s.1, s.2)
sound_before (suc (suc (suc zero))) file s = (header_of s.0 s.1 s.2, s.3, s.4, refl, refl)
sound_before (suc (suc (suc (suc k)))) file s = absurd s

sound_below : (k j : ℕ) (file : List ℕ) → j ≤ k → IsSound k file → IsSound j file
sound_below zero j file le s = subst (λ (n : ℕ). IsSound n file) (omega arith) s
sound_below (suc k) j file le s =
    elim (cases_lt j (suc k)) [
      | inl lt ↦ sound_below k j file (omega arith) (sound_before k file s)
      | inr ge ↦ subst (λ (n : ℕ). IsSound n file) (omega arith) s
    ]

-- how far a file is in order that has this outcome
rank : Outcome → ℕ
rank (is_capture nano link packets) = 4
rank (has_fault (ShortHeader len)) = 0
rank (has_fault (BadMagic found)) = 1
rank (has_fault (BadVersion major minor)) = 2
rank (has_fault (BadLink found)) = 3
rank (has_fault (CutRecord at)) = 4
rank (has_fault (LongRecord at len)) = 4
rank (has_fault OutOfMemory) = 4

sound_up_to : (file : List ℕ) (a : Outcome) → IsOutcome file a → IsSound (rank a) file
unfolding IsSound rank
sound_up_to file (is_capture nano link packets) is = (is.order, nano, link, records_bytes is.order is.records, is.header)
sound_up_to file (has_fault (ShortHeader len)) is = tt
sound_up_to file (has_fault (BadMagic found)) is = is.0
sound_up_to file (has_fault (BadVersion major minor)) is = (is.0, is.1, is.2)
sound_up_to file (has_fault (BadLink found)) is = (is.0, is.1, is.2, is.3, is.4)
sound_up_to file (has_fault (CutRecord at)) is = (is.0, is.2.nano, is.2.link, records_bytes is.0 is.2.records ++ is.1, is.2.header)
sound_up_to file (has_fault (LongRecord at len)) is = (is.0, is.2.nano, is.2.link, records_bytes is.0 is.2.records ++ is.1, is.2.header)
sound_up_to file (has_fault OutOfMemory) is = absurd is

other_link : (link : Link) (n : ℕ) → link_type link ≡ n → (n ≡ 1 → ⊥) → (n ≡ 101 → ⊥) → ⊥
other_link Ethernet n e not_1 not_101 = not_1 (sym e)
other_link RawIp n e not_1 not_101 = not_101 (sym e)

not_beyond : (file : List ℕ) (a : Outcome) → IsOutcome file a → IsSound (suc (rank a)) file → ⊥
unfolding IsSound rank
not_beyond file (is_capture nano link packets) is s = s
not_beyond file (has_fault (ShortHeader len)) is s = omega arith
not_beyond file (has_fault (BadMagic found)) is s =
    let h = s.0 in
    let front : take 4 file ≡ number_bytes h.order 4 (magic h.nano) =
    ap (take 4) (s.2.spelled ∙ spelled_apart h s.2.free s.1)
    ∙ take_at (number_bytes h.order 4 (magic h.nano)) _ 4 (length-number_bytes h.order 4 (magic h.nano)) in
    is.2 h.order h.nano front
not_beyond file (has_fault (BadVersion major minor)) is s =
    let same = (header_once file is.0 s.0 is.1 s.1 is.2 s.2).0 in
    is.5 (sym is.3 ∙ ap (λ (h : Header). h.major) same ∙ s.3, sym is.4 ∙ ap (λ (h : Header). h.minor) same ∙ s.4)
not_beyond file (has_fault (BadLink found)) is s =
    let same = (header_once file is.0 (header_of s.0 s.1 s.2) is.1 s.3 is.2 s.4).0 in
    other_link s.2 found (sym (ap (λ (h : Header). h.link) same) ∙ is.5) is.6 is.7
not_beyond file (has_fault (CutRecord at)) is s = s
not_beyond file (has_fault (LongRecord at len)) is s = s
not_beyond file (has_fault OutOfMemory) is s = s

-- ---- what comes after the whole records

-- what a file has up to the end of its records, and what follows
record Start : Type 0 where
  pub order : Order
  pub nano : Bool
  pub link : Link
  pub records : List Record
  pub rest : List ℕ

-- where a file is in order up to there, and no whole record follows
record Ends (file : List ℕ) (s : Start) : Type 0 where
  pub header : HasHeader file (header_of s.order s.nano s.link) (records_bytes s.order s.records ++ s.rest)
  pub all : AreAllRecords s.order s.records s.rest

-- what the outcome says of that
IsEnd : List ℕ → Outcome → Start → Type 0
IsEnd file (is_capture nano link packets) s =
    (nano ≡ s.nano) × (link ≡ s.link) × (packets ≡ map (packet_of s.nano) s.records) × (s.rest ≡ [])
IsEnd file (has_fault (CutRecord at)) s = (at + length s.rest ≡ length file) × IsCut s.order s.rest
IsEnd file (has_fault (LongRecord at len)) s = (at + length s.rest ≡ length file) × IsLong s.order s.rest len
IsEnd file _ s = ⊥

record HasEnd (file : List ℕ) (a : Outcome) : Type 0 where
  pub start : Start
  pub ends : Ends file start
  pub is : IsEnd file a start

end_of_capture : (file : List ℕ) (nano : Bool) (link : Link) (packets : List Packet) → IsCapture file nano link packets
    → HasEnd file (is_capture nano link packets)
unfolding IsEnd
end_of_capture file nano link packets c =
    record {
      start = record { order = c.order; nano = nano; link = link; records = c.records; rest = [] };
      ends = record {
        header = subst (λ (w : List ℕ). HasHeader file (header_of c.order nano link) w) (sym (append-nil (records_bytes c.order c.records))) c.header;
        all = record { each = c.each; no_record = no_record_at_end c.order };
      };
      is = (refl, refl, c.packets_are, refl);
    }

-- what a file has whole, and what follows
abbrev start_of : (file : List ℕ) (order : Order) (at : ℕ) (rest : List ℕ) → IsWholeBefore file order at rest → Start
start_of file order at rest w = record { order = order; nano = w.nano; link = w.link; records = w.records; rest = rest }

end_when_cut : (file : List ℕ) (at : ℕ) → IsFault file (CutRecord at) → HasEnd file (has_fault (CutRecord at))
unfolding IsEnd
end_when_cut file at f =
    record {
      start = start_of file f.0 at f.1 f.2;
      ends = record { header = f.2.header; all = record { each = f.2.each; no_record = no_record_when_cut f.0 f.1 f.3 } };
      is = (f.2.place, f.3);
    }

end_when_long : (file : List ℕ) (at len : ℕ) → IsFault file (LongRecord at len) → HasEnd file (has_fault (LongRecord at len))
unfolding IsEnd
end_when_long file at len f =
    record {
      start = start_of file f.0 at f.1 f.2;
      ends = record { header = f.2.header; all = record { each = f.2.each; no_record = no_record_when_long f.0 f.1 len f.3 } };
      is = (f.2.place, f.3);
    }

cut_or_long : (order : Order) (rest : List ℕ) (len : ℕ) → IsCut order rest → IsLong order rest len → ⊥
cut_or_long order rest len (in_header some short) long = omega (arith, announced_long order rest len long.more long.announced)
cut_or_long order rest len (in_bytes c more announced few beyond) long =
    let cut : Announced order rest = record { captured = c; more = more; header = announced; fits = omega arith } in
    omega (arith, (announced_once order rest cut (long_announced order rest len long)).captured, long.over)

end_is_not_cut : (order : Order) → IsCut order [] → ⊥
end_is_not_cut order (in_header some short) = omega arith
end_is_not_cut order (in_bytes c more announced few beyond) = omega (arith, announced_long order [] c more announced)

end_is_not_long : (order : Order) (len : ℕ) → IsLong order [] len → ⊥
end_is_not_long order len long = omega (arith, announced_long order [] len long.more long.announced)

place_once : (at at' n m : ℕ) → at + n ≡ m → at' + n ≡ m → at ≡ at'
place_once at at' n m e e' = omega arith

end_decides : (file : List ℕ) (a b : Outcome) (s : Start) → IsEnd file a s → IsEnd file b s → a ≡ b
unfolding IsEnd
end_decides file (is_capture n l ps) (is_capture n' l' ps') s p q =
    ap (λ x. is_capture x l ps) (p.0 ∙ sym q.0) ∙ ap (λ x. is_capture n' x ps) (p.1 ∙ sym q.1) ∙ ap (λ x. is_capture n' l' x) (p.2 ∙ sym q.2)
end_decides file (has_fault (CutRecord at)) (has_fault (CutRecord at')) s p q =
    ap (λ x. has_fault (CutRecord x)) (place_once at at' (length s.rest) (length file) p.0 q.0)
end_decides file (has_fault (LongRecord at len)) (has_fault (LongRecord at' len')) s p q =
    let same = (announced_once s.order s.rest (long_announced s.order s.rest len p.1) (long_announced s.order s.rest len' q.1)).captured in
    ap (λ x. has_fault (LongRecord x len)) (place_once at at' (length s.rest) (length file) p.0 q.0) ∙ ap (λ x. has_fault (LongRecord at' x)) same
end_decides file (is_capture n l ps) (has_fault (CutRecord at)) s p q =
    absurd (end_is_not_cut s.order (subst (λ w. IsCut s.order w) p.3 q.1))
end_decides file (is_capture n l ps) (has_fault (LongRecord at len)) s p q =
    absurd (end_is_not_long s.order len (subst (λ w. IsLong s.order w len) p.3 q.1))
end_decides file (has_fault (CutRecord at)) (is_capture n l ps) s p q =
    absurd (end_is_not_cut s.order (subst (λ w. IsCut s.order w) q.3 p.1))
end_decides file (has_fault (LongRecord at len)) (is_capture n l ps) s p q =
    absurd (end_is_not_long s.order len (subst (λ w. IsLong s.order w len) q.3 p.1))
end_decides file (has_fault (CutRecord at)) (has_fault (LongRecord at' len)) s p q = absurd (cut_or_long s.order s.rest len p.1 q.1)
end_decides file (has_fault (LongRecord at len)) (has_fault (CutRecord at')) s p q = absurd (cut_or_long s.order s.rest len q.1 p.1)
end_decides file (has_fault (ShortHeader len)) b s p q = absurd p
end_decides file (has_fault (BadMagic found)) b s p q = absurd p
end_decides file (has_fault (BadVersion major minor)) b s p q = absurd p
end_decides file (has_fault (BadLink found)) b s p q = absurd p
end_decides file (has_fault OutOfMemory) b s p q = absurd p
end_decides file a (has_fault (ShortHeader len)) s p q = absurd q
end_decides file a (has_fault (BadMagic found)) s p q = absurd q
end_decides file a (has_fault (BadVersion major minor)) s p q = absurd q
end_decides file a (has_fault (BadLink found)) s p q = absurd q
end_decides file a (has_fault OutOfMemory) s p q = absurd q

same_end : (file : List ℕ) (a b : Outcome) → HasEnd file a → HasEnd file b → a ≡ b
same_end file a b first second =
    let p = first.start in
    let q = second.start in
    let head = header_once file (header_of p.order p.nano p.link) (header_of q.order q.nano q.link) (records_bytes p.order p.records ++ p.rest)
    (records_bytes q.order q.records ++ q.rest) first.ends.header second.ends.header in
    let order : q.order ≡ p.order = sym (ap (λ (h : Header). h.order) head.0) in
    let nano : q.nano ≡ p.nano = sym (ap (λ (h : Header). h.nano) head.0) in
    let link : q.link ≡ p.link = sym (link_once p.link q.link (ap (λ (h : Header). h.link) head.0)) in
    let parts =
    records_once p.order p.records q.records p.rest q.rest first.ends.all (subst (λ (o : Order). AreAllRecords o q.records q.rest) order second.ends.all)
    (subst (λ (o : Order). records_bytes p.order p.records ++ p.rest ≡ records_bytes o q.records ++ q.rest) order head.1) in
    let start : Order → Bool → Link → List Record → List ℕ → Start = λ o n l r w. record { order = o; nano = n; link = l; records = r; rest = w } in
    let same : start q.order q.nano q.link q.records q.rest ≡ start p.order p.nano p.link p.records p.rest =
    ap (λ o. start o q.nano q.link q.records q.rest) order ∙ ap (λ n. start p.order n q.link q.records q.rest) nano
    ∙ ap (λ l. start p.order p.nano l q.records q.rest) link ∙ ap (λ r. start p.order p.nano p.link r q.rest) (sym parts.0)
    ∙ ap (λ w. start p.order p.nano p.link p.records w) (sym parts.1) in
    end_decides file a b p first.is (subst (λ (s : Start). IsEnd file b s) same second.is)

-- ---- one outcome

has_end : (file : List ℕ) (a : Outcome) → rank a ≡ 4 → IsOutcome file a → HasEnd file a
unfolding rank
has_end file (is_capture nano link packets) r is = end_of_capture file nano link packets is
has_end file (has_fault (CutRecord at)) r is = end_when_cut file at is
has_end file (has_fault (LongRecord at len)) r is = end_when_long file at len is
has_end file (has_fault OutOfMemory) r is = absurd is
has_end file (has_fault (ShortHeader len)) r is = absurd (omega arith)
has_end file (has_fault (BadMagic found)) r is = absurd (omega arith)
has_end file (has_fault (BadVersion major minor)) r is = absurd (omega arith)
has_end file (has_fault (BadLink found)) r is = absurd (omega arith)

apart : (file : List ℕ) (a b : Outcome) → rank a < rank b → IsOutcome file a → IsOutcome file b → ⊥
apart file a b lt p q = not_beyond file a p (sound_below (rank b) (suc (rank a)) file (omega arith) (sound_up_to file b q))

same_rank : (file : List ℕ) (a b : Outcome) → rank a ≡ rank b → IsOutcome file a → IsOutcome file b → a ≡ b
unfolding rank
same_rank file (has_fault (ShortHeader len)) (has_fault (ShortHeader len')) e p q = ap (λ x. has_fault (ShortHeader x)) (p.1 ∙ sym q.1)
same_rank file (has_fault (BadMagic found)) (has_fault (BadMagic found')) e p q = ap (λ x. has_fault (BadMagic x)) (p.1 ∙ sym q.1)
same_rank file (has_fault (BadVersion major minor)) (has_fault (BadVersion major' minor')) e p q =
    let same = (header_once file p.0 q.0 p.1 q.1 p.2 q.2).0 in
    ap (λ x. has_fault (BadVersion x minor)) (sym p.3 ∙ ap (λ (h : Header). h.major) same ∙ q.3)
    ∙ ap (λ x. has_fault (BadVersion major' x)) (sym p.4 ∙ ap (λ (h : Header). h.minor) same ∙ q.4)
same_rank file (has_fault (BadLink found)) (has_fault (BadLink found')) e p q =
    let same = (header_once file p.0 q.0 p.1 q.1 p.2 q.2).0 in
    ap (λ x. has_fault (BadLink x)) (sym p.5 ∙ ap (λ (h : Header). h.link) same ∙ q.5)
same_rank file (is_capture nano link packets) b e p q =
    same_end file (is_capture nano link packets) b (end_of_capture file nano link packets p) (has_end file b (sym e) q)
same_rank file (has_fault (CutRecord at)) b e p q = same_end file (has_fault (CutRecord at)) b (end_when_cut file at p) (has_end file b (sym e) q)
same_rank file (has_fault (LongRecord at len)) b e p q =
    same_end file (has_fault (LongRecord at len)) b (end_when_long file at len p) (has_end file b (sym e) q)
same_rank file (has_fault OutOfMemory) b e p q = absurd p
same_rank file (has_fault (ShortHeader len)) b e p q = absurd (omega arith)
same_rank file (has_fault (BadMagic found)) b e p q = absurd (omega arith)
same_rank file (has_fault (BadVersion major minor)) b e p q = absurd (omega arith)
same_rank file (has_fault (BadLink found)) b e p q = absurd (omega arith)

-- a file has one outcome
pub outcome_once : (file : List ℕ) (a b : Outcome) → IsOutcome file a → IsOutcome file b → a ≡ b
outcome_once file a b p q =
    elim (cases_lt (rank a) (rank b)) [
      | inl lt ↦ absurd (apart file a b lt p q)
      | inr le ↦
          elim (cases_lt (rank b) (rank a)) [
            | inl lt ↦ absurd (apart file b a lt q p)
            | inr ge ↦ same_rank file a b (omega arith) p q
          ]
    ]

-- ---- what follows for captures and for faults

pub captures_once : (file : List ℕ) (nano nano' : Bool) (link link' : Link) (packets packets' : List Packet) → IsCapture file nano link packets
    → IsCapture file nano' link' packets'
    → (nano ≡ nano') × (link ≡ link') × (packets ≡ packets')
captures_once file nano nano' link link' packets packets' p q =
    let same = outcome_once file (is_capture nano link packets) (is_capture nano' link' packets') p q in
    (cc, cc, cc)

pub faults_once : (file : List ℕ) (fault fault' : PcapFault) → IsFault file fault → IsFault file fault' → fault ≡ fault'
faults_once file fault fault' p q =
    let same = outcome_once file (has_fault fault) (has_fault fault') p q in
    cc

pub no_fault_of_a_capture : (file : List ℕ) (nano : Bool) (link : Link) (packets : List Packet) (fault : PcapFault) → IsCapture file nano link packets
    → IsFault file fault → ⊥
no_fault_of_a_capture file nano link packets fault p q =
    let same = outcome_once file (is_capture nano link packets) (has_fault fault) p q in
    cc

-- an answer that is a fault, or that there was no memory
abbrev pub IsAnswer : List ℕ → PcapFault → Type 0
IsAnswer file answer = (answer ≡ OutOfMemory) ⊎ IsFault file answer

-- such an answer to a capture says that there was no memory
pub answer_to_capture : (file : List ℕ) (answer : PcapFault) (nano : Bool) (link : Link) (packets : List Packet) → IsAnswer file answer
    → IsCapture file nano link packets → answer ≡ OutOfMemory
answer_to_capture file answer nano link packets (inl none) is = none
answer_to_capture file answer nano link packets (inr fault) is = absurd (no_fault_of_a_capture file nano link packets answer is fault)

-- and one to a file with a fault says so, or names the fault
pub answer_to_fault : (file : List ℕ) (answer fault : PcapFault) → IsAnswer file answer → IsFault file fault → (answer ≡ OutOfMemory) ⊎ (answer ≡ fault)
answer_to_fault file answer fault (inl none) is = inl none
answer_to_fault file answer fault (inr said) is = inr (faults_once file answer fault said is)
