-- When the packets of a port come: one cell a slot, one packet after the other.
use Rattle.std.specs.Prelude.{ℕ, ◌+◌, ◌-◌, ◌*◌, ◌/◌, ◌<◌, ◌≤◌, ◌^◌, max, List, [], ◌∷◌}
use Rattle.line_pace.specs.declared.pace.Stamp.{Stamp}
use Rattle.line_pace.specs.declared.pace.Pace.{Pace}
use Rattle.line_pace.specs.declared.pace.Pace.TheVariants.{Line, Micros, Rate}

-- the time that slot 0 begins at, in nanoseconds
abbrev pub base_of : Pace → ℕ
base_of Line = 0
base_of (Micros slot base) = base
base_of (Rate mbps base) = base

-- a slot has 1 to 1,000,000 microseconds, a line 1 to 1,600,000 megabits a second
abbrev pub IsPace : Pace → Type 0
IsPace Line = Unit {0}
IsPace (Micros slot base) = (0 < slot) × (slot ≤ 1000000)
IsPace (Rate mbps base) = (0 < mbps) × (mbps ≤ 1600000)

-- a time that a slot of a line rate can be told of, in nanoseconds: any whose seconds have 32 bits
abbrev pub IsRateTime : Pace → ℕ → Type 0
IsRateTime Line time = Unit {0}
IsRateTime (Micros slot base) time = Unit {0}
IsRateTime (Rate mbps base) time = time < 2 ^ 62

-- a packet that can come at this pace: it has a cell, no more than the longest record, and is not before slot 0
pub record CanCome (pace : Pace) (packet : Stamp) : Type 0 where
  pub some : 0 < packet.cells
  pub few : packet.cells ≤ 4682
  pub time : base_of pace ≤ packet.time
  pub early : IsRateTime pace packet.time

-- The slot in which a time falls: whole slots since slot 0 began. At line pace times do not count; at a line rate a
-- slot takes as long as the 512 bits of a cell.
abbrev pub slot_of : Pace → ℕ → ℕ
slot_of Line time = 0
slot_of (Micros slot base) time = (time - base) / (1000 * slot)
slot_of (Rate mbps base) time = (time - base) * mbps / 512000

-- the slot in which a packet starts: that of its time, but none before the line is free
abbrev pub start : Pace → ℕ → Stamp → ℕ
start pace free packet = max (slot_of pace packet.time) free

-- the slot of its last cell
abbrev pub arrival : Pace → ℕ → Stamp → ℕ
arrival pace free packet = start pace free packet + packet.cells - 1

-- the arrival slots of packets on a line that is free from this slot on. It is free again in the slot after an arrival.
abbrev pub arrivals_from : Pace → ℕ → List Stamp → List ℕ
arrivals_from pace free [] = []
arrivals_from pace free (packet ∷ packets) =
    arrival pace free packet ∷ arrivals_from pace (arrival pace free packet + 1) packets

-- the arrival slots of a port's packets
abbrev pub arrival_slots : Pace → List Stamp → List ℕ
arrival_slots pace packets = arrivals_from pace 0 packets

-- how many slots a port's packets take to come: the last arrival slot plus one, or 0 for no packets
abbrev pub slots_taken : List ℕ → ℕ
slots_taken [] = 0
slots_taken (slot ∷ []) = slot + 1
slots_taken (slot ∷ next ∷ slots) = slots_taken (next ∷ slots)
