-- The report's lines of the queues of a run, as words. What ends in `under` is of any scheduler; the other names are of the
-- scheduler of the board.
use Rattle.std.specs.Prelude.{ℕ, ◌++◌, nat_lt, List, [], ◌∷◌, map, filter, codes, decimal, Option}
use Rattle.std.specs.List.{flat_map, range_with_len}
use Rattle.slot_match.specs.declared.matching.Served.{Served}
use Rattle.eslip_rounds.specs.Schedulers.{Scheduler}
use Rattle.eslip_rounds.specs.Decisions.{decision_of}
use Rattle.card_core.specs.Plans.{Plan, Queue, OfOutput, OfLevel}
use Rattle.queue_lengths.specs.Lengths.{queues_of, packets_of, dropped_of, cells_of_admitted, peak_of, peak_slot}
use Rattle.queue_measures.specs.declared.numbers.QueueNumbers.{QueueNumbers}
use Rattle.switch_plan.specs.GoodPlans.{SwitchPlan}
use Rattle.run_laws.specs.Runs.{ports_of, card_at, parts_under}
use Rattle.queue_measures.specs.Sizing.{deepest_under}

-- the numbers of a queue of an input that was served these parts, over the first slots
abbrev pub numbers_of : Plan → List (Option Served) → ℕ → Queue → QueueNumbers
numbers_of plan served slots q = record {
  packets = packets_of plan q;
  dropped = dropped_of plan q served;
  cells = cells_of_admitted plan q served;
  peak = peak_of plan q served slots;
  slot = peak_slot plan q served slots;
}

-- the name of a queue of input i: `0>2:1u` of an output and a level, `0>*:1m` of a level for multicast
abbrev pub queue_name : ℕ → Queue → List ℕ
queue_name i (OfOutput j level) = decimal i ++ codes ">" ++ decimal j ++ codes ":" ++ decimal level ++ codes "u"
queue_name i (OfLevel level) = decimal i ++ codes ">*:" ++ decimal level ++ codes "m"

-- the line of a queue
unfoldable pub queue_line : ℕ → Queue → QueueNumbers → List (List ℕ)
queue_line i q numbers =
    codes "queue" ∷ queue_name i q ∷ codes "packets" ∷ decimal numbers.packets ∷ codes "dropped" ∷ decimal numbers.dropped
    ∷ codes "cells" ∷ decimal numbers.cells ∷ codes "peak" ∷ decimal numbers.peak ∷ codes "slot" ∷ decimal numbers.slot ∷ []

-- the queues of an input that a packet was for, in the order of the report
abbrev pub queues_used : Plan → List Queue
queues_used plan = filter (λ q. nat_lt 0 (packets_of plan q)) (queues_of plan.ports)

-- the lines of input i
abbrev pub input_lines : ℕ → Plan → List (Option Served) → ℕ → List (List (List ℕ))
input_lines i plan served slots = map (λ q. queue_line i q (numbers_of plan served slots q)) (queues_used plan)

-- the last line: the greatest length of any queue
abbrev pub deepest_line : ℕ → List (List ℕ)
deepest_line most = codes "deepest" ∷ decimal most ∷ []

-- the lines of a run of so many slots: of each input its queues, and then the deepest
unfoldable pub queue_lines_under : Scheduler → SwitchPlan → ℕ → List (List (List ℕ))
queue_lines_under scheduler plan slots =
    flat_map (λ i. input_lines i (card_at plan i) (parts_under scheduler plan i slots) slots) (range_with_len 0 (ports_of plan))
    ++ deepest_line (deepest_under scheduler plan slots) ∷ []

abbrev pub queue_lines : SwitchPlan → ℕ → List (List (List ℕ))
queue_lines = queue_lines_under decision_of
