-- Which cells of a queue were granted, slot by slot.
use Rattle.std.specs.Prelude.{ℕ, zero, suc, ◌==◌, ◌&&◌, not, nat_lt, Bool, if◌then◌else◌, List, [], ◌∷◌, ◌++◌, filter, Option, None, slice_index_or}
use Rattle.rotating_pick.specs.declared.kinds.Kind.TheVariants.{Uni, Multi}
use Rattle.slot_match.specs.declared.matching.Served.{Served}
use Rattle.multicast_queue.specs.FanQueues.{FanCell, first_fan}
use Rattle.slot_histories.specs.Tests.{has, gives}
use Rattle.card_core.specs.Plans.{Plan, Queue, OfOutput, OfLevel}
use Rattle.card_core.specs.declared.plan.Planned.{Planned}
use Rattle.card_core.specs.Queues.{Passed, waiting, rest_of, queue_in, enters}

-- whether a part serves output j from the queue
abbrev pub serves : Queue → ℕ → Option Served → Bool
serves (OfOutput k level) j part = (k == j) && gives part j level Uni
serves (OfLevel level) j part = gives part j level Multi

-- the first cell, if any
abbrev pub first_of : List FanCell → List FanCell
first_of [] = []
first_of (cell ∷ cells) = cell ∷ []

-- the cells that were granted to output j from the queue in the slots before t, in order: of each slot that
-- served it the first cell that waited
abbrev pub granted_to : Plan → Queue → ℕ → List (Option Served) → ℕ → List FanCell
granted_to plan q j served zero = []
granted_to plan q j served (suc t) =
    granted_to plan q j served t ++ (if serves q j (slice_index_or served t None) then first_of (waiting (queue_in plan q served t)) else [])

-- the cells that go to output j
abbrev pub to_output : ℕ → List FanCell → List FanCell
to_output j cells = filter (λ cell. has cell.fan j) cells

-- the head, where it goes to output j and was granted to it already
abbrev pub begun_for : Queue → ℕ → Passed → List FanCell
begun_for q j s = if has (first_fan (waiting s)) j && not (has (rest_of q s) j) then first_of (waiting s) else []

-- the packets that arrive before slot t, enter the queue and go to output j, in order of arrival
abbrev pub packets_to : Plan → Queue → ℕ → List (Option Served) → ℕ → List Planned
packets_to plan q j served t = filter (λ packet. nat_lt packet.arrival t && enters plan q served packet && has packet.fan j) plan.packets
