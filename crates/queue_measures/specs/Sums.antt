-- How the numbers of an input's queues add up. What ends in `Under` says it of any scheduler.
use Rattle.std.specs.Prelude.{◌≡◌, ℕ, ◌+◌, ◌<◌, List, Option}
use Rattle.std.specs.List.{sum_by}
use Rattle.slot_match.specs.declared.matching.Served.{Served}
use Rattle.eslip_rounds.specs.Schedulers.{Scheduler}
use Rattle.card_core.specs.Plans.{Plan}
use Rattle.card_core.specs.Queues.{admitted, dropped}
use Rattle.queue_lengths.specs.Lengths.{queues_of, packets_of, dropped_of}
use Rattle.switch_plan.specs.GoodPlans.{SwitchPlan}
use Rattle.run_laws.specs.Runs.{ports_of, card_at, parts_under}

-- Over the queues of an input the packets add up to those that were admitted and dropped, and the dropped ones to those
-- that were dropped.
pub record AddUp (plan : Plan) (served : List (Option Served)) (slots : ℕ) : Type 0 where
  -- each packet that goes anywhere is for one queue, and was admitted or dropped
  pub packets : sum_by (packets_of plan) (queues_of plan.ports) ≡ admitted plan served slots + dropped plan served slots
  -- and each that was dropped counts as dropped at that queue
  pub dropped : sum_by (λ q. dropped_of plan q served) (queues_of plan.ports) ≡ dropped plan served slots

-- the queues of each input of a run add up so
abbrev pub QueuesAddUpUnder : Scheduler → SwitchPlan → ℕ → Type 0
QueuesAddUpUnder scheduler plan slots = (i : ℕ) → i < ports_of plan → AddUp (card_at plan i) (parts_under scheduler plan i slots) slots
