-- What the counters of an input tell of its queues, slot by slot.
use Rattle.std.specs.Prelude.{◌≡◌, ℕ, ◌+◌, ◌<◌, ◌&&◌, List, length, Option, slice_index, slice_index_or, option_map, None}
use Rattle.slot_match.specs.declared.matching.Served.{Served}
use Rattle.card_core.specs.declared.plan.Planned.{Planned}
use Rattle.card_core.specs.Plans.{Plan, Queue, IsGoodPlan, arriving}
use Rattle.card_core.specs.Queues.{is_routed, is_admitted}
use Rattle.card_core.specs.Posts.{row_at, IsServable}
use Rattle.card_core.specs.States.{IsNext}
use Rattle.queue_lengths.specs.declared.counters.Arrival.{Arrival}
use Rattle.queue_lengths.specs.Lengths.{IsQueue, place_of, length_before, length_in, count_of}

-- The ports of the switch, the most cells of a queue, the input's packets, how many of them have come, and how many cells
-- wait in each queue, by its place.
pub record Counters : Type 0 where
  pub ports : ℕ
  pub depth : ℕ
  pub packets : List Planned
  pub next : ℕ
  pub lengths : List ℕ

-- in each slot the input was served nothing, or a part of the row that its queues gave
abbrev pub AreServable : Plan → List (Option Served) → Type 0
AreServable plan served = (t : ℕ) → t < length served → IsServable (row_at plan served t) (slice_index_or served t None)

-- The counters are those of an input with this plan, of which so many slots' packets have come; each queue has this length.
pub record Count (plan : Plan) (counters : Counters) (served : List (Option Served)) (slots : ℕ) (long : Queue → ℕ) : Type 0 where
  pub good : IsGoodPlan plan
  pub ports : counters.ports ≡ plan.ports
  pub depth : counters.depth ≡ plan.depth
  pub packets : counters.packets ≡ plan.packets
  pub servable : AreServable plan served
  pub next : IsNext plan.packets slots counters.next
  pub count : length counters.lengths ≡ count_of plan.ports
  pub lengths : (q : Queue) → IsQueue plan.ports q → slice_index counters.lengths (place_of plan.ports q) ≡ long q

-- they tell the queues of an input that was served these parts, before the packet of the next slot
abbrev pub CountBefore : Plan → Counters → List (Option Served) → Type 0
CountBefore plan counters served = Count plan counters served (length served) (λ q. length_before plan q served (length served))

-- and with the packet of the next slot
abbrev pub CountIn : Plan → Counters → List (Option Served) → Type 0
CountIn plan counters served = Count plan counters served (length served + 1) (λ q. length_in plan q served (length served))

-- the packet that arrives in slot t, with its number, and whether it enters a queue
abbrev pub arrival_in : Plan → List (Option Served) → ℕ → Option Arrival
arrival_in plan served t =
    option_map (λ p. record { number = p.0; packet = p.1; admitted = is_routed p.1 && is_admitted plan served t p.1 }) (arriving plan t)
