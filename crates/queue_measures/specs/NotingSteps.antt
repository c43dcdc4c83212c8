-- What the measures keep of the slots of a run that they have noted.
use Rattle.std.specs.Prelude.{◌≡◌, ℕ, ◌^◌, ◌<◌, ◌&&◌, not, nat_lt, if◌then◌else◌, List, [], length, Option, count_by, slice_index_or}
use Rattle.std.specs.List.{sum_by}
use Rattle.slot_match.specs.declared.matching.Served.{Served}
use Rattle.eslip_rounds.specs.Schedulers.{Scheduler}
use Rattle.card_core.specs.Plans.{Plan, Queue, size_of}
use Rattle.card_core.specs.Queues.{is_routed, is_admitted, enters}
use Rattle.queue_lengths.specs.Lengths.{IsQueue, place_of, count_of, is_for, peak_of, peak_slot}
use Rattle.queue_lengths.specs.Counters.{Counters, CountBefore}
use Rattle.queue_measures.specs.declared.numbers.QueueNumbers.{QueueNumbers}
use Rattle.switch_plan.specs.GoodPlans.{SwitchPlan, IsGood}
use Rattle.run_laws.specs.Runs.{ports_of, card_at, parts_under}

-- an input: the counters of its queues, and the numbers of each queue, by its place
pub record Input : Type 0 where
  pub counters : Counters
  pub numbers : List QueueNumbers

-- no numbers, where there is no queue
abbrev pub no_numbers : QueueNumbers
no_numbers = record { packets = 0; dropped = 0; cells = 0; peak = 0; slot = 0 }

-- an input without packets, where there is none
abbrev pub no_input : Input
no_input = record { counters = record { ports = 0; depth = 0; packets = []; next = 0; lengths = [] }; numbers = [] }

-- the numbers of a queue over the first slots, of the packets that arrive in them
abbrev pub numbers_so_far : Plan → List (Option Served) → ℕ → Queue → QueueNumbers
numbers_so_far plan served slots q = record {
  packets = count_by (λ packet. nat_lt packet.arrival slots && is_for q packet) plan.packets;
  dropped = count_by (λ packet. nat_lt packet.arrival slots && (is_for q packet && not (is_admitted plan served packet.arrival packet))) plan.packets;
  cells = sum_by (λ packet. if nat_lt packet.arrival slots && enters plan q served packet then size_of packet else 0) plan.packets;
  peak = peak_of plan q served slots;
  slot = peak_slot plan q served slots;
}

-- the packets of a card, and the cells of those that go anywhere, are counted in numbers of 32 bits
pub record IsCounted (plan : Plan) : Type 0 where
  pub packets : length plan.packets < 2 ^ 32
  pub cells : sum_by (λ packet. if is_routed packet then size_of packet else 0) plan.packets < 2 ^ 32

-- the input of such a plan was served these parts, one in each slot that was noted
pub record IsNoted (plan : Plan) (input : Input) (served : List (Option Served)) : Type 0 where
  pub counted : IsCounted plan
  pub counts : CountBefore plan input.counters served
  pub count : length input.numbers ≡ count_of plan.ports
  pub numbers : (q : Queue) → IsQueue plan.ports q
      → slice_index_or input.numbers (place_of plan.ports q) no_numbers ≡ numbers_so_far plan served (length served) q

-- The first slots of the plan's run are noted.
pub record HasNoted (scheduler : Scheduler) (plan : SwitchPlan) (inputs : List Input) (slots : ℕ) : Type 0 where
  pub good : IsGood plan
  pub count : length inputs ≡ ports_of plan
  pub each : (i : ℕ) → i < ports_of plan → IsNoted (card_at plan i) (slice_index_or inputs i no_input) (parts_under scheduler plan i slots)
