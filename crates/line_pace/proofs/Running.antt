-- From which slot on the line is free after some packets.
use Rattle.std.proofs.Common.{◌≡◌, ℕ, ◌+◌, ◌<◌, ◌≤◌, List, [], ◌∷◌, refl, arith, length, get_or, drop}
use Rattle.std.proofs.lemmas.List.{at_drop_more}
use Rattle.line_pace.specs.declared.pace.Stamp.{Stamp}
use Rattle.line_pace.specs.declared.pace.Pace.{Pace}
use Rattle.line_pace.specs.Arrivals.{arrival, arrivals_from, arrival_slots, slots_taken}

-- the slot from which on a line is free after the packets
abbrev pub free_after : Pace → ℕ → List Stamp → ℕ
free_after pace free [] = free
free_after pace free (packet ∷ packets) = free_after pace (arrival pace free packet + 1) packets

-- the slots that some packets take are those until the line is free
pub slots_taken-some : (pace : Pace) (free : ℕ) (packet : Stamp) (packets : List Stamp)
    → slots_taken (arrivals_from pace free (packet ∷ packets)) ≡ free_after pace free (packet ∷ packets)
slots_taken-some pace free packet [] = refl
slots_taken-some pace free packet (next ∷ packets) = slots_taken-some pace (arrival pace free packet + 1) next packets

pub slots_taken-is : (pace : Pace) (packets : List Stamp) → slots_taken (arrival_slots pace packets) ≡ free_after pace 0 packets
slots_taken-is pace [] = refl
slots_taken-is pace (packet ∷ packets) = slots_taken-some pace 0 packet packets

-- a line is not free sooner after packets
pub free_after-le : (pace : Pace) (free : ℕ) (packets : List Stamp) → free ≤ free_after pace free packets
free_after-le pace free [] = omega arith
free_after-le pace free (packet ∷ packets) =
    let rest = free_after-le pace (arrival pace free packet + 1) packets in
    let here : free ≤ arrival pace free packet + 1 = omega arith in
    omega arith

-- the line is free after packet i no later than after all packets
pub arrival-lt : (pace : Pace) (free : ℕ) (packets : List Stamp) (i : ℕ) (d : Stamp) → i < length packets
    → arrival pace free (get_or packets i d) < free_after pace free (drop i packets)
arrival-lt pace free packets i d h =
    let next : free_after pace free (drop i packets) ≡ free_after pace (arrival pace free (get_or packets i d) + 1) (drop (i + 1) packets) =
    at_drop_more (free_after pace free) packets i d h in
    omega (arith, free_after-le pace (arrival pace free (get_or packets i d) + 1) (drop (i + 1) packets))
