-- How many cells wait in the queues of an input, slot by slot. `served` is what the input was served in each slot.
use Rattle.std.specs.Prelude.{ℕ, Bool, zero, suc, ◌+◌, ◌*◌, ◌<◌, ◌++◌, ◌&&◌, not, nat_lt, max, if◌then◌else◌, List, length, map, Option, count_by}
use Rattle.std.specs.List.{flat_map, fold, range_with_len, sum_by}
use Rattle.rotating_pick.specs.declared.limits.TheConstants.{LEVELS}
use Rattle.slot_match.specs.declared.matching.Served.{Served}
use Rattle.card_core.specs.declared.plan.Planned.{Planned}
use Rattle.card_core.specs.Plans.{Plan, Queue, OfOutput, OfLevel, is_queue, queue_of, size_of}
use Rattle.card_core.specs.Queues.{waiting, before, queue_in, is_routed, is_admitted, enters}

-- how many cells wait in the queue when slot t begins
abbrev pub length_before : Plan → Queue → List (Option Served) → ℕ → ℕ
length_before plan q served t = length (waiting (before plan q served t))

-- how many cells wait in the queue in slot t: with the packet that arrives in it, before what the slot serves
abbrev pub length_in : Plan → Queue → List (Option Served) → ℕ → ℕ
length_in plan q served t = length (waiting (queue_in plan q served t))

-- a queue of an input of a switch of so many ports
abbrev pub IsQueue : ℕ → Queue → Type 0
IsQueue ports (OfOutput j level) = (j < ports) × (level < LEVELS)
IsQueue ports (OfLevel level) = level < LEVELS

-- the queues of an input of a switch of so many ports: unicast by output and level, both rising, then multicast by level
abbrev pub queues_of : ℕ → List Queue
queues_of ports = flat_map (λ j. map (OfOutput j) (range_with_len 0 LEVELS)) (range_with_len 0 ports) ++ map OfLevel (range_with_len 0 LEVELS)

-- how many queues there are
abbrev pub count_of : ℕ → ℕ
count_of ports = LEVELS * ports + LEVELS

-- the place of a queue in that list
abbrev pub place_of : ℕ → Queue → ℕ
place_of ports (OfOutput j level) = LEVELS * j + level
place_of ports (OfLevel level) = LEVELS * ports + level

-- whether a packet is for the queue: it goes somewhere, and its fan-out and level are those of the queue
abbrev pub is_for : Queue → Planned → Bool
is_for q packet = is_routed packet && is_queue q (queue_of packet)

-- how many packets of the input are for the queue, and how many of these are dropped in their arrival slots
abbrev pub packets_of : Plan → Queue → ℕ
packets_of plan q = count_by (is_for q) plan.packets

abbrev pub dropped_of : Plan → Queue → List (Option Served) → ℕ
dropped_of plan q served = count_by (λ packet. is_for q packet && not (is_admitted plan served packet.arrival packet)) plan.packets

-- the cells of those that are admitted; a multicast cell counts once
abbrev pub cells_of_admitted : Plan → Queue → List (Option Served) → ℕ
cells_of_admitted plan q served = sum_by (λ packet. if enters plan q served packet then size_of packet else 0) plan.packets

-- the greatest of f over the first t slots, 0 of none, and the first slot with it, 0 where it is 0
abbrev pub greatest : (ℕ → ℕ) → ℕ → ℕ
greatest f zero = 0
greatest f (suc t) = max (greatest f t) (f t)

abbrev pub first_greatest : (ℕ → ℕ) → ℕ → ℕ
first_greatest f zero = 0
first_greatest f (suc t) = if nat_lt (greatest f t) (f t) then t else first_greatest f t

-- the greatest length of the queue over the first slots, and the first slot in which it was so long
abbrev pub peak_of : Plan → Queue → List (Option Served) → ℕ → ℕ
peak_of plan q served slots = greatest (length_in plan q served) slots

abbrev pub peak_slot : Plan → Queue → List (Option Served) → ℕ → ℕ
peak_slot plan q served slots = first_greatest (length_in plan q served) slots

-- the greatest of the peaks of the queues of an input
abbrev pub deepest_of : Plan → List (Option Served) → ℕ → ℕ
deepest_of plan served slots = fold (λ most q. max most (peak_of plan q served slots)) 0 (queues_of plan.ports)
