-- What holds of a run from how the plan's packets arrive alone.
use Rattle.std.specs.Prelude.{ℕ, ◌+◌, ◌-◌, ◌*◌, ◌<◌, ◌≤◌}
use Rattle.rotating_pick.specs.declared.limits.TheConstants.{LEVELS}
use Rattle.eslip_rounds.specs.Schedulers.{Scheduler}
use Rattle.switch_plan.specs.GoodPlans.{SwitchPlan, packets_in}
use Rattle.switch_plan.specs.Totals.{greatest_slots}
use Rattle.run_laws.specs.Runs.{ports_of}
use Rattle.queue_measures.specs.Sizing.{DropsNothing}
use Rattle.arrival_bounds.specs.Arrivals.{AreUnicast, ArePairsShaped, AreHeldFew, IsPairFew, IsShaped, HasCurves, HasWindows, AreQueuesShaped}
use Rattle.arrival_bounds.specs.Waits.{WaitsAtMost, QueueWaits, HoldByLine, HoldsAtMost, HoldWhatComes}
use Rattle.departure_bounds.specs.Delays.{DepartWithin, QueueDepartsWithin}

-- How long a cell waits at most, in any queue and in one alone; how many cells are held where none waits longer, and where few
-- arrive in each window; with which depth nothing is dropped; how long packets take where no cell waits longer, and where the
-- load of each line is at most a quarter or a third; and when the run ends.
pub record IsBounded (scheduler : Scheduler) (plan : SwitchPlan) (slots : ℕ) : Type 0 where
  pub waits : (most : ℕ) → ArePairsShaped plan (2 * most + 1) (most + 2) → WaitsAtMost scheduler plan most
  pub waits_held : (held_in held_out : ℕ → ℕ) (most : ℕ) → HoldByLine scheduler plan held_in held_out → AreHeldFew plan held_in held_out most
      → WaitsAtMost scheduler plan most
  pub queue_waits : (i j l cells : ℕ) → i < ports_of plan → j < ports_of plan → l < LEVELS → IsPairFew plan i j cells
      → QueueWaits scheduler plan i j l (cells - 2)
  pub holds_recent : (most : ℕ) → WaitsAtMost scheduler plan most → HoldWhatComes scheduler plan most
  pub holds_few : (window cells : ℕ) → 0 < window → IsShaped plan window cells → 3 * cells ≤ window + 1 → HoldsAtMost scheduler plan cells
  pub holds_by_line : (most_in most_out : ℕ → ℕ → ℕ) (slots_in slots_out : ℕ → ℕ) → HasCurves plan most_in most_out
      → HasWindows plan most_in most_out slots_in slots_out
      → HoldByLine scheduler plan (λ i. most_in i (slots_in i)) (λ j. most_out j (slots_out j))
  pub enough_by_waits : (most : ℕ) → ArePairsShaped plan (2 * most + 1) (most + 2) → AreQueuesShaped plan (most + 1) plan.depth
      → DropsNothing scheduler plan slots
  pub enough_by_few : (window cells : ℕ) → 0 < window → IsShaped plan window cells → 3 * cells ≤ window + 1 → cells ≤ plan.depth
      → DropsNothing scheduler plan slots
  pub enough_by_line : (most_in most_out : ℕ → ℕ → ℕ) (slots_in slots_out : ℕ → ℕ) → HasCurves plan most_in most_out
      → HasWindows plan most_in most_out slots_in slots_out → ((i : ℕ) → i < ports_of plan → most_in i (slots_in i) ≤ plan.depth)
      → DropsNothing scheduler plan slots
  pub departs : (most : ℕ) → WaitsAtMost scheduler plan most → DepartWithin scheduler plan slots (most + 1)
  pub queue_departs : (i j l most : ℕ) → QueueWaits scheduler plan i j l most → QueueDepartsWithin scheduler plan slots i j l (most + 1)
  pub quarter : (cells : ℕ) → 0 < cells → IsShaped plan (4 * cells - 3) cells → DepartWithin scheduler plan slots (2 * cells - 1)
  pub third : (cells : ℕ) → 0 < cells → IsShaped plan (3 * cells - 1) cells → DepartWithin scheduler plan slots (6 * cells - 1)
  pub ends : (most : ℕ) → WaitsAtMost scheduler plan most → slots ≤ greatest_slots (packets_in plan) + most + 1

-- So it is of a run of so many slots where each packet goes to one output and a slot has as many rounds as ports, or more.
abbrev pub ArrivalBounds : Scheduler → SwitchPlan → ℕ → Type 0
ArrivalBounds scheduler plan slots = AreUnicast plan → ports_of plan ≤ plan.rounds → IsBounded scheduler plan slots
