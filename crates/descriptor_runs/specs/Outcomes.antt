-- What the run of a plan leaves, whatever made it.
use Rattle.std.specs.Prelude.{◌≡◌, ℕ, ◌≤◌, List, [], map, length}
use Rattle.std.specs.List.{range_with_len}
use Rattle.pcap_records.specs.Output.{capture_text}
use Rattle.eslip_rounds.specs.Schedulers.{Scheduler}
use Rattle.slot_report.specs.declared.summary.OutLine.{OutLine}
use Rattle.switch_plan.specs.GoodPlans.{SwitchPlan}
use Rattle.run_laws.specs.Runs.{ports_of}
use Rattle.run_laws.specs.Ends.{IsLengthUnder}
use Rattle.run_laws.specs.Crossings.{cells_under}
use Rattle.run_laws.specs.Outcomes.{messages_under, summary_under}
use Rattle.descriptor_runs.specs.declared.outputs.Captures.{Captures}
use Rattle.descriptor_runs.specs.declared.outputs.Captures.TheVariants.{Kept, Dropped}
use Rattle.descriptor_runs.specs.declared.runs.RunOutcome.{RunOutcome}

-- the capture of output j in a run of so many slots
abbrev pub capture_under : Scheduler → SwitchPlan → ℕ → ℕ → List ℕ
capture_under scheduler plan slots j = capture_text plan.nano plan.link (messages_under scheduler plan j slots)

-- the captures of all outputs, by port: none where they are dropped
abbrev pub captures_by : Captures → Scheduler → SwitchPlan → ℕ → List (List ℕ)
captures_by Kept scheduler plan slots = map (capture_under scheduler plan slots) (range_with_len 0 (ports_of plan))
captures_by Dropped scheduler plan slots = []

-- how many packets and cells came to output j
abbrev pub line_under : Scheduler → SwitchPlan → ℕ → ℕ → OutLine
line_under scheduler plan slots j = record {
  packets = length (messages_under scheduler plan j slots);
  cells = length (cells_under scheduler plan j slots);
}

-- The run of the plan under the scheduler has so many slots, and this is what it leaves: its numbers, and of each output how much
-- came to it and, where captures are kept, its capture.
pub record IsRunOutcome (asked : Captures) (scheduler : Scheduler) (plan : SwitchPlan) (slots : ℕ) (outcome : RunOutcome) : Type 0 where
  pub ends : IsLengthUnder scheduler plan slots
  pub within : slots ≤ plan.max_slots
  pub captures : map (λ capture. capture.items) outcome.captures.items ≡ captures_by asked scheduler plan slots
  pub lines : outcome.lines.items ≡ map (line_under scheduler plan slots) (range_with_len 0 (ports_of plan))
  pub summary : outcome.summary ≡ summary_under scheduler plan slots
