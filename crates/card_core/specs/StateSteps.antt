-- What single calls make of the queues of a card.
use Rattle.std.specs.Prelude.{◌≡◌, ◌≢◌, ℕ, ◌+◌, ◌*◌, ◌<◌, ◌≤◌, ◌==◌, ◌^◌, nat_le, Bool, true, false, if◌then◌else◌, List, [], ◌∷◌, ◌++◌, map, length}
use Rattle.std.specs.Prelude.{Option, None, Some, slice_get, slice_index}
use Rattle.std.specs.List.{range_with_len}
use Rattle.rotating_pick.specs.PortSets.{Has, IsAmong, HasSeveral}
use Rattle.rotating_pick.specs.declared.kinds.Kind.{Kind}
use Rattle.rotating_pick.specs.declared.kinds.Kind.TheVariants.{Uni, Multi}
use Rattle.rotating_pick.specs.declared.limits.TheConstants.{LEVELS, MAX_PORTS}
use Rattle.cell_cutter.specs.declared.cell.CellName.{CellName}
use Rattle.cell_cutter.specs.declared.sizes.TheConstants.{MAX_FORWARDED_CELLS}
use Rattle.slot_match.specs.declared.rows.Row.{Row}
use Rattle.slot_match.specs.declared.matching.Served.{Served}
use Rattle.slot_match.specs.Parts.{set_of}
use Rattle.voq_banks.specs.Queues.{Queues as UniQueues, queue_at as uni_at, spare_at, Waits, OthersStay as UnisStay}
use Rattle.voq_banks.specs.CellQueues.{names_of_packet, cells_with_fan}
use Rattle.multicast_queue.specs.FanQueues.{Queues as FanQueues, FanCell, queue_at as fan_at, first_name, HeadLeaves, HeadStays, OthersStay}
use Rattle.card_core.specs.declared.plan.Planned.{Planned}
use Rattle.card_core.specs.declared.arrivals.Count.{Count}
use Rattle.card_core.specs.Plans.{OfOutput, OfLevel, size_of}
use Rattle.card_core.specs.Queues.{counted}
use Rattle.card_core.specs.States.{packets_for}

-- whether a cell waits, by names
abbrev pub has_names : List CellName → Bool
has_names [] = false
has_names (name ∷ more) = true

-- the row that the queues give
abbrev pub row_of : UniQueues → FanQueues → Row
row_of banks fans = record {
  uni = map (λ l. set_of banks.ports (λ j. has_names (uni_at banks j l))) (range_with_len 0 LEVELS);
  multi = map (λ l. (fan_at fans l).rest) (range_with_len 0 LEVELS);
}

-- what a packet of `cells` cells adds to a unicast queue: all of it, or nothing where it does not fit
abbrev pub added : ℕ → ℕ → ℕ → ℕ → List CellName
added depth waits packet cells = if nat_le (waits + cells) depth then names_of_packet packet cells else []

-- and to a multicast queue
abbrev pub fan_added : ℕ → ℕ → ℕ → ℕ → ℕ → List FanCell
fan_added depth waits packet cells fan = if nat_le (waits + cells) depth then cells_with_fan packet cells fan else []

-- the rest of the head's fan-out after that: where no cell waited, that of the first cell, if one came
abbrev pub rest_after : List FanCell → ℕ → List FanCell → ℕ
rest_after [] rest [] = rest
rest_after [] rest (cell ∷ cells) = cell.fan
rest_after (cell ∷ more) rest cells = rest

-- the packet that is next, where it arrives in the slot
abbrev pub arriving_if : ℕ → Option Planned → Option Planned
arriving_if slot None = None
arriving_if slot (Some packet) = if packet.arrival == slot then Some packet else None

abbrev pub next_in : List Planned → ℕ → ℕ → Option Planned
next_in packets next slot = arriving_if slot (slice_get packets next)

-- a packet of a fan-out, a level and so many cells may enter its queue
pub record MayEnter (banks : UniQueues) (fans : FanQueues) (fan level count : ℕ) : Type 0 where
  pub size : banks.ports ≤ MAX_PORTS
  pub ports : fans.ports ≡ banks.ports
  pub routed : fan ≢ 0
  pub level_in : level < LEVELS
  pub among : IsAmong banks.ports fan
  pub some : 0 < count
  pub few : count ≤ MAX_FORWARDED_CELLS
  pub uni_room : (j : ℕ) → fan ≡ 2 ^ j → 0 < spare_at banks j level
  pub fan_room : HasSeveral fan → 0 < (fan_at fans level).spare

-- it entered the unicast queue of output j, if it fitted
pub record EntersUnicast (j number level count : ℕ) (fits : Bool) (banks new : UniQueues) : Type 0 where
  pub test : fits ≡ nat_le (length (uni_at banks j level) + count) banks.depth
  pub queue : uni_at new j level ≡ uni_at banks j level ++ added banks.depth (length (uni_at banks j level)) number count
  pub spare : spare_at banks j level ≤ spare_at new j level + 1
  pub others : UnisStay j level banks new

-- it entered the multicast queue of its level, if it fitted
pub record EntersMulticast (number fan level count : ℕ) (fits : Bool) (fans new : FanQueues) : Type 0 where
  pub test : fits ≡ nat_le (length (fan_at fans level).cells + count) fans.depth
  pub cells : (fan_at new level).cells ≡ (fan_at fans level).cells ++ fan_added fans.depth (length (fan_at fans level).cells) number count fan
  pub rest : (fan_at new level).rest ≡ rest_after (fan_at fans level).cells (fan_at fans level).rest
      (fan_added fans.depth (length (fan_at fans level).cells) number count fan)
  pub spare : (fan_at fans level).spare ≤ (fan_at new level).spare + 1
  pub others : OthersStay level fans new

-- the packet entered its queue, if it goes anywhere and fitted
pub record Enters (number fan level count : ℕ) (fits : Bool) (banks : UniQueues) (fans : FanQueues) (banks' : UniQueues) (fans' : FanQueues) : Type 0 where
  pub nowhere : fan ≡ 0 → (banks' ≡ banks) × (fans' ≡ fans)
  pub unicast : fan ≢ 0 → (j : ℕ) → fan ≡ 2 ^ j → EntersUnicast j number level count fits banks banks' × (fans' ≡ fans)
  pub multicast : fan ≢ 0 → HasSeveral fan → EntersMulticast number fan level count fits fans fans' × (banks' ≡ banks)

-- the first cell of a unicast queue left
pub record LeavesUnicast (j level : ℕ) (name : CellName) (banks new : UniQueues) : Type 0 where
  pub queue : uni_at banks j level ≡ name ∷ uni_at new j level
  pub spare : spare_at new j level ≡ spare_at banks j level
  pub others : UnisStay j level banks new

-- the outputs were served from the first cell of a multicast queue, which left where these were all of its rest
pub record LeavesMulticast (outputs level : ℕ) (name : CellName) (fans new : FanQueues) : Type 0 where
  pub head : Some name ≡ first_name (fan_at fans level).cells
  pub leaves : ((y : ℕ) → Has (fan_at fans level).rest y → Has outputs y) → HeadLeaves (fan_at fans level) (fan_at new level)
  pub stays : (((y : ℕ) → Has (fan_at fans level).rest y → Has outputs y) → ⊥) → HeadStays outputs (fan_at fans level) (fan_at new level)
  pub spare : (fan_at new level).spare ≡ (fan_at fans level).spare
  pub others : OthersStay level fans new

-- the part may be taken off the queues
abbrev pub MayLeave : Kind → UniQueues → FanQueues → Served → Type 0
MayLeave Uni banks fans part = (j : ℕ) × (part.outputs ≡ 2 ^ j) × (j < banks.ports) × (part.level < LEVELS) × Waits banks j part.level
MayLeave Multi banks fans part = (0 < length (fan_at fans part.level).cells) × (part.level < LEVELS) × (part.outputs ≢ 0)
    × ((y : ℕ) → Has part.outputs y → Has (fan_at fans part.level).rest y)

abbrev pub Leaves : Kind → Served → CellName → UniQueues → FanQueues → UniQueues → FanQueues → Type 0
Leaves Uni part name banks fans banks' fans' = ((j : ℕ) → part.outputs ≡ 2 ^ j → LeavesUnicast j part.level name banks banks') × (fans' ≡ fans)
Leaves Multi part name banks fans banks' fans' = LeavesMulticast part.outputs part.level name fans fans' × (banks' ≡ banks)

abbrev pub MayArrive : UniQueues → FanQueues → Option Planned → Type 0
MayArrive banks fans None = Unit {0}
MayArrive banks fans (Some packet) = packet.fan ≢ 0 → MayEnter banks fans packet.fan packet.level (size_of packet)

-- the count is that of the packets that arrived, were admitted and were dropped
abbrev pub Arrives : ℕ → Option Planned → Count → UniQueues → FanQueues → UniQueues → FanQueues → Type 0
Arrives number None count banks fans banks' fans' = (count.packets ≡ 0) × (count.admitted ≡ 0) × (count.dropped ≡ 0) × (banks' ≡ banks) × (fans' ≡ fans)
Arrives number (Some packet) count banks fans banks' fans' =
    (fits : Bool) × Enters number packet.fan packet.level (size_of packet) fits banks fans banks' fans' × (count.packets ≡ 1)
    × (count.admitted ≡ counted true packet fits) × (count.dropped ≡ counted false packet fits)

-- the rooms of the queues are the numbers of these packets that enter them
pub record HasRooms (ports : ℕ) (packets : List Planned) (uni fan : List ℕ) : Type 0 where
  pub long : length uni ≡ LEVELS * ports
  pub unis : (j l : ℕ) → j < ports → l < LEVELS → slice_index uni (LEVELS * j + l) ≡ packets_for (OfOutput j l) packets
  pub fans : (l : ℕ) → l < LEVELS → slice_index fan l ≡ packets_for (OfLevel l) packets

-- no room is greater
pub record AreFew (most : ℕ) (uni fan : List ℕ) : Type 0 where
  pub unis : (place : ℕ) → slice_index uni place ≤ most
  pub fans : (place : ℕ) → slice_index fan place ≤ most
