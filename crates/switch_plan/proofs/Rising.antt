-- Arrival slots rise, and are no fewer than the packets.
use Rattle.std.proofs.Common.{◌≡◌, ◌∙◌, ℕ, zero, suc, ◌+◌, ◌<◌, ◌≤◌, List, [], ◌∷◌, length, slice_index_or, refl, ap, arith}
use Rattle.std.specs.Prelude.{map}
use Rattle.std.specs.List.{zip}
use Rattle.std.proofs.lemmas.List.{length-map}
use Rattle.line_pace.specs.declared.pace.Pace.{Pace}
use Rattle.line_pace.specs.declared.pace.Stamp.{Stamp}
use Rattle.line_pace.specs.Arrivals.{arrival, arrivals_from, arrival_slots, slots_taken}
use Rattle.pcap_records.specs.Packets.{Packet}
use Rattle.switch_plan.specs.Traffic.{stamp_of}
use Rattle.switch_plan.proofs.Arriving.{cells_some}

-- slots that rise, from this one on
abbrev pub AreRisingFrom : ℕ → List ℕ → Type 0
AreRisingFrom free [] = Unit {0}
AreRisingFrom free (slot ∷ slots) = (free ≤ slot) × AreRisingFrom (slot + 1) slots

pub arrivals_rise : (pace : Pace) (free : ℕ) (packets : List Packet) → AreRisingFrom free (arrivals_from pace free (map stamp_of packets))
arrivals_rise pace free [] = tt
arrivals_rise pace free (packet ∷ packets) =
    let some = cells_some (length packet.bytes) in
    let later : free ≤ arrival pace free (stamp_of packet) = omega arith in
    (later, arrivals_rise pace (arrival pace free (stamp_of packet) + 1) packets)

arrivals_long : (pace : Pace) (free : ℕ) (stamps : List Stamp) → length (arrivals_from pace free stamps) ≡ length stamps
arrivals_long pace free [] = refl
arrivals_long pace free (stamp ∷ stamps) = omega (arith, arrivals_long pace (arrival pace free stamp + 1) stamps)

-- there is a slot for each packet
pub slots_long : (pace : Pace) (packets : List Packet) → length (arrival_slots pace (map stamp_of packets)) ≡ length packets
slots_long pace packets = arrivals_long pace 0 (map stamp_of packets) ∙ length-map packets stamp_of

rising_from : (free : ℕ) (slots : List ℕ) (k d : ℕ) → AreRisingFrom free slots → k < length slots → free ≤ slice_index_or slots k d
rising_from free [] k d rise inside = absurd (omega arith)
rising_from free (slot ∷ slots) zero d rise inside = rise.0
rising_from free (slot ∷ slots) (suc k) d rise inside =
    let here = rise.0 in
    let more = rising_from (slot + 1) slots k d rise.1 (omega arith) in
    omega arith

pub rising_apart : (free : ℕ) (slots : List ℕ) (k j d : ℕ) → AreRisingFrom free slots → k < j → j < length slots
    → slice_index_or slots k d < slice_index_or slots j d
rising_apart free [] k j d rise less inside = absurd (omega arith)
rising_apart free (slot ∷ slots) k zero d rise less inside = absurd (omega arith)
rising_apart free (slot ∷ slots) zero (suc j) d rise less inside =
    let more = rising_from (slot + 1) slots j d rise.1 (omega arith) in
    omega arith
rising_apart free (slot ∷ slots) (suc k) (suc j) d rise less inside =
    rising_apart (slot + 1) slots k j d rise.1 (omega arith) (omega arith)

-- each is below the slots taken
pub rising_below : (free : ℕ) (slots : List ℕ) (k d : ℕ) → AreRisingFrom free slots → k < length slots → slice_index_or slots k d < slots_taken slots
rising_below free [] k d rise inside = absurd (omega arith)
rising_below free (slot ∷ []) zero d rise inside = omega arith
rising_below free (slot ∷ []) (suc k) d rise inside = absurd (omega arith)
rising_below free (slot ∷ next ∷ slots) zero d rise inside =
    let here = rise.1.0 in
    let more = rising_below (slot + 1) (next ∷ slots) zero d rise.1 (omega arith) in
    omega arith
rising_below free (slot ∷ next ∷ slots) (suc k) d rise inside =
    rising_below (slot + 1) (next ∷ slots) k d rise.1 (omega arith)

rising_many : (free slot : ℕ) (slots : List ℕ) → AreRisingFrom free (slot ∷ slots) → free + length (slot ∷ slots) ≤ slots_taken (slot ∷ slots)
rising_many free slot [] rise = let here = rise.0 in omega arith
rising_many free slot (next ∷ slots) rise =
    let here = rise.0 in
    let more = rising_many (slot + 1) next slots rise.1 in
    omega arith

-- and they are no more than those
pub rising_few : (slots : List ℕ) → AreRisingFrom 0 slots → length slots ≤ slots_taken slots
rising_few [] rise = omega arith
rising_few (slot ∷ slots) rise = let many = rising_many 0 slot slots rise in omega arith

pub zip_right : {A B : Type 0} (xs : List A) (ys : List B) → length xs ≡ length ys → map (λ pair. pair.1) (zip xs ys) ≡ ys
zip_right [] [] same = refl
zip_right [] (y ∷ ys) same = absurd (omega arith)
zip_right (x ∷ xs) [] same = absurd (omega arith)
zip_right (x ∷ xs) (y ∷ ys) same = ap (λ zs. y ∷ zs) (zip_right xs ys (omega arith))
