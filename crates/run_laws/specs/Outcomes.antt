-- What the run of a plan leaves: its journal, what each output got, and its numbers. What ends in `under` is of any
-- scheduler; the other names are of the scheduler of the board.
use Rattle.std.specs.Prelude.{◌≡◌, ℕ, ◌+◌, List, map, length, Some, slice_get}
use Rattle.std.specs.List.{sum_by, range_with_len, concat}
use Rattle.rotating_pick.specs.declared.limits.TheConstants.{LEVELS}
use Rattle.service_bound.specs.Waits.{noted_of, longest_wait}
use Rattle.card_core.specs.declared.outcome.CardOut.{CardOut}
use Rattle.card_core.specs.Queues.{admitted, dropped}
use Rattle.card_core.specs.Deliveries.{delivered}
use Rattle.slot_report.specs.declared.summary.Summary.{Summary}
use Rattle.switch_plan.specs.GoodPlans.{SwitchPlan, packets_in}
use Rattle.eslip_rounds.specs.Schedulers.{Scheduler}
use Rattle.eslip_rounds.specs.Decisions.{decision_of}
use Rattle.run_laws.specs.Runs.{ports_of, setup_for, card_at, parts_under, run_journal}
use Rattle.run_laws.specs.Ends.{IsLength}
use Rattle.run_laws.specs.Crossings.{cells_under}
use Rattle.run_laws.specs.Sums.{schedule_under}
use Rattle.run_laws.specs.declared.outcome.Outcome.{Outcome}

-- the messages that are delivered to output j in the first slots, in the order of the slots in which their last cells cross
abbrev pub messages_under : Scheduler → SwitchPlan → ℕ → ℕ → List (List ℕ)
messages_under scheduler plan j slots = delivered (cells_under scheduler plan j slots)

-- how many packets of port i are admitted in the first slots
abbrev pub admitted_count : Scheduler → SwitchPlan → ℕ → ℕ → ℕ
admitted_count scheduler plan slots i = admitted (card_at plan i) (parts_under scheduler plan i slots) slots

-- and how many are dropped
abbrev pub dropped_count : Scheduler → SwitchPlan → ℕ → ℕ → ℕ
dropped_count scheduler plan slots i = dropped (card_at plan i) (parts_under scheduler plan i slots) slots

-- the sum over all ports
abbrev pub over_ports : SwitchPlan → (ℕ → ℕ) → ℕ
over_ports plan f = sum_by f (range_with_len 0 (ports_of plan))

-- the longest wait of a unicast queue of the level in the first slots
abbrev pub longest_under : Scheduler → SwitchPlan → ℕ → ℕ → ℕ
longest_under scheduler plan slots level = longest_wait (ports_of plan) level (map noted_of (schedule_under scheduler plan slots))

-- the numbers of a run of so many slots
unfoldable pub summary_under : Scheduler → SwitchPlan → ℕ → Summary
summary_under scheduler plan slots = record {
  ports = ports_of plan;
  rounds = plan.rounds;
  depth = plan.depth;
  slots = slots;
  packets = sum_by length (packets_in plan);
  oversize = plan.oversize;
  unrouted = plan.unrouted;
  dropped = over_ports plan (dropped_count scheduler plan slots);
  forwarded = over_ports plan (admitted_count scheduler plan slots);
  copies = over_ports plan (λ j. length (messages_under scheduler plan j slots));
  cells = over_ports plan (λ j. length (cells_under scheduler plan j slots));
  longest = map (longest_under scheduler plan slots) (range_with_len 0 LEVELS);
}

abbrev pub summary_of : SwitchPlan → ℕ → Summary
summary_of = summary_under decision_of

-- Every packet is counted once: as too long, as one without a route, as dropped or as forwarded.
abbrev pub CountsPacketsOnce : Summary → Type 0
CountsPacketsOnce summary = summary.packets ≡ summary.oversize + summary.unrouted + summary.dropped + summary.forwarded

-- what a run of so many slots leaves at port j: what came to its output, and how its own packets fared
pub record IsOutputUnder (scheduler : Scheduler) (plan : SwitchPlan) (slots j : ℕ) (out : CardOut) : Type 0 where
  pub body : out.body.items ≡ concat (messages_under scheduler plan j slots)
  pub lens : out.lens.items ≡ map length (messages_under scheduler plan j slots)
  pub packets : out.packets ≡ length (messages_under scheduler plan j slots)
  pub cells : out.cells ≡ length (cells_under scheduler plan j slots)
  pub admitted : out.admitted ≡ admitted_count scheduler plan slots j
  pub dropped : out.dropped ≡ dropped_count scheduler plan slots j

abbrev pub IsOutput : SwitchPlan → ℕ → ℕ → CardOut → Type 0
IsOutput = IsOutputUnder decision_of

-- The run of the plan, to its end: the journal of its slots, what each port is left with, and its numbers.
pub record IsOutcome (plan : SwitchPlan) (outcome : Outcome) : Type 0 where
  pub slots : ℕ
  pub ends : IsLength plan slots
  pub setup : outcome.journal.setup ≡ setup_for plan
  pub journal : outcome.journal.slots ≡ run_journal plan slots
  pub ports : length outcome.outputs.items ≡ ports_of plan
  pub outputs : (j : ℕ) (out : CardOut) → slice_get outcome.outputs.items j ≡ Some out → IsOutput plan slots j out
  pub summary : outcome.summary ≡ summary_of plan slots
