-- The rules of a queue, stated of all slots at once: what entered it, how many cells left, and what is left of the first. A history says
-- what passed through the queue before each slot. The laws `queues_keep_the_rules` and `rules_tell_the_queue` say that the queue of
-- `Queues`, which goes slot by slot, keeps the rules, and that nothing else does.
use Rattle.std.specs.Prelude.{◌≡◌, ℕ, zero, suc, ◌+◌, ◌==◌, ◌&&◌, nat_lt, Bool, if◌then◌else◌, List, [], ◌∷◌, ◌++◌, drop, length, Option, None}
use Rattle.std.specs.Prelude.{slice_index_or, count_by}
use Rattle.std.specs.List.{range_with_len}
use Rattle.slot_match.specs.declared.matching.Served.{Served}
use Rattle.multicast_queue.specs.FanQueues.{FanCell, first_fan}
use Rattle.voq_banks.specs.CellQueues.{cells_with_fan}
use Rattle.card_core.specs.declared.plan.Planned.{Planned}
use Rattle.card_core.specs.Plans.{Plan, Queue, is_queue, queue_of, size_of}
use Rattle.card_core.specs.Queues.{Passed, remaining, is_routed, fits}

-- whether a packet enters the queue: it goes somewhere, the queue is its own, and with its cells at most the depth wait when it arrives
abbrev pub comes_in : Plan → Queue → (ℕ → Passed) → Planned → Bool
comes_in plan q history packet = is_routed packet && is_queue q (queue_of packet) && fits plan (history packet.arrival) packet

-- the cells of all packets that arrive before slot t and enter the queue, in order, where the first packet has number k
abbrev pub cells_entering : Plan → Queue → (ℕ → Passed) → ℕ → ℕ → List Planned → List FanCell
cells_entering plan q history t k [] = []
cells_entering plan q history t k (packet ∷ packets) =
    (if nat_lt packet.arrival t && comes_in plan q history packet then cells_with_fan k (size_of packet) packet.fan else [])
    ++ cells_entering plan q history t (k + 1) packets

-- whether cell n of those that enter, counted from 0, is the first that waits in slot t: n cells left before, and it has entered
abbrev pub is_first : (ℕ → Passed) → ℕ → ℕ → Bool
is_first history n t = ((history t).left == n) && nat_lt n (length (history (suc t)).entered)

-- what the card was served in the slots before t in which cell n was the first, the latest first
abbrev pub parts_for : List (Option Served) → (ℕ → Passed) → ℕ → ℕ → List (Option Served)
parts_for served history n zero = []
parts_for served history n (suc t) =
    if is_first history n t then slice_index_or served t None ∷ parts_for served history n t else parts_for served history n t

-- what is left of cell n before slot t: its fan-out without these parts
abbrev pub left_of : Queue → List (Option Served) → (ℕ → Passed) → ℕ → ℕ → ℕ
left_of q served history n t = remaining q (first_fan (drop n (history t).entered)) (parts_for served history n t)

-- whether slot t completes the first cell: one waits, and after the slot nothing is left of it
abbrev pub completes : Queue → List (Option Served) → (ℕ → Passed) → ℕ → Bool
completes q served history t = is_first history (history t).left t && (left_of q served history (history t).left (suc t) == 0)

-- The rules. Before slot t the cells of all packets that arrived before it and enter have entered, and as many cells have left as slots
-- before it completed the first cell; what was served since a cell is the first is what the slots served in which it was the first.
-- (The law `entered_are_the_admitted` says the first in the words of `Queues`.)
pub record KeepsRules (plan : Plan) (q : Queue) (served : List (Option Served)) (history : ℕ → Passed) : Type 0 where
  pub entered : (t : ℕ) → (history t).entered ≡ cells_entering plan q history t 0 plan.packets
  pub left : (t : ℕ) → (history t).left ≡ count_by (completes q served history) (range_with_len 0 t)
  pub since : (t : ℕ) → (history t).since ≡ parts_for served history (history t).left t
